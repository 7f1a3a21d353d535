-- Terminate's handler begins: what must be shown where two steps lead to its first operation.
use Rattle.std.proofs.Common.{◌≡◌, ◌∙◌, refl, sym, ap, subst, arith, ℕ, ◌+◌, ◌≤◌, ◌<◌, inl, Bool, true, false, List, [], ◌∷◌, length, Option, Some, None, if◌then◌else◌}
use Rattle.std.specs.List.{AllByRecursion}
use Rattle.run_items.specs.declared.item.Item.{Item}
use Rattle.cxa_runtime.specs.World as abi
use Rattle.region_forms.specs.World.{World}
use Rattle.region_forms.specs.Effect.{newest_of}
use Rattle.linear_forms.specs.Linear.{LinearOp}
use Rattle.linear_forms.specs.Stub.{Function, compiled, end_catch, terminating, call_unexpected}
use Rattle.linear_forms.specs.Activation.{Activation, State, Code, goes_to}
use Rattle.linear_forms.specs.Machine.{step}
use Rattle.linear_forms.specs.Pace.{Leads, LeadsOn}
use Rattle.linear_forms.proofs.Paces
use Rattle.flight_homes.specs.Keeps.{Carried, flying_in}
use Rattle.flight_homes.specs.Nest.{is_terminate, waits_terminate}
use Rattle.linear_invariant.specs.Forced.{newest_forced, or_else, forced_carried}
use Rattle.linear_invariant.specs.Handled.{open_handlers}
use Rattle.linear_invariant.proofs.Calls.{Spared}
use Rattle.source_bounds.specs.Compiled.{unit_for}
use Rattle.machine_simulation.specs.Plan.{Plan}
use Rattle.machine_simulation.specs.Entering.{opened, frame_for}
use Rattle.machine_simulation.specs.Matches.{Matches}
use Rattle.machine_exceptions.specs.Leaves.{StepsTo}
use Rattle.machine_exceptions.specs.Terminates.{waiting_terminate, ending_world, in_handler}
use Rattle.stack_bounds.specs.Taken.{terminate_calls, is_terminate_call}
use Rattle.address_invariant.specs.Extents.{extents_of}
use Rattle.address_invariant.specs.Reaching.{Reaches}
use Rattle.address_invariant.specs.Laws.{GoesOn}
use Rattle.address_invariant.proofs.Newest.{newest_was_made}
use Rattle.address_invariant.proofs.Plans.{plans_go_on}
use Rattle.address_invariant.proofs.Steps.{steps_reach}
use Rattle.step_law.specs.Facts.{needs_for, code_for}
use Rattle.step_law.specs.Rows.{Run, IsAt}
use Rattle.step_law.proofs.Aligned.{align_push_two}
use Rattle.step_law.proofs.Keeping.{NotEntered, ShownBehind}

counts_none : (n : ℕ) → n ≡ 0 → 0 + n ≡ 0
counts_none n h = omega (arith, h)

-- where terminate waits for no handler, none of its calls is open
pub none_terminate : (fs : List Activation) → waits_terminate fs ≡ false → terminate_calls fs ≡ 0
none_terminate [] h = refl
none_terminate (a ∷ fs) h = by a.function h (none_terminate fs)
  where
    by : (f : Function) → (if is_terminate f then true else waits_terminate fs) ≡ false → (waits_terminate fs ≡ false → terminate_calls fs ≡ 0) → is_terminate_call f + terminate_calls fs ≡ 0
    by (compiled m) h rest = counts_none (terminate_calls fs) (rest h)
    by end_catch h rest = counts_none (terminate_calls fs) (rest h)
    by terminating h rest = absurd (cc h)
    by call_unexpected h rest = counts_none (terminate_calls fs) (rest h)

-- the second of two steps, where the first is known
pub second_step : (code : Code) (st mid next : State) → step code st ≡ goes_to mid → StepsTo code 2 st next → step code mid ≡ goes_to next
second_step code st mid next one h =
    let both : goes_to h.0 ≡ goes_to mid = sym h.1 ∙ one in
    let same : h.0 ≡ mid = cc both in
    subst (λ y. step code y ≡ goes_to next) same (h.2.1 ∙ ap goes_to h.2.2)

-- what one step leads to
pub led_one : (code : Code) (st mid y : State) → step code st ≡ goes_to mid → Leads code 1 st (goes_to y) → mid ≡ y
led_one code st mid y one h =
    let led : LeadsOn 0 (λ s. Leads code 0 s (goes_to y)) (goes_to y) (goes_to mid) = subst (λ s. LeadsOn 0 (λ z. Leads code 0 z (goes_to y)) (goes_to y) s) one h in
    cc led

-- what the world in which the program terminates has of the one before
pub record EndsIn (w v : World) : Type 0 where
  pub last : v.last_number ≡ w.last_number
  pub newest : newest_of v.caught ≤ v.last_number

module _ (x : Run) (q : Plan) (before n : ℕ) (o : LinearOp) (st : State) (w : abi.World) (at : IsAt x q before n o st w) (m : ℕ) (v : World) where
  abbrev code : Code
  code = code_for x.program

  abbrev here : List Activation
  here = st.top ∷ st.frames

  abbrev waiting : State
  waiting = record { top = st.top; frames = st.frames; world = v }

  -- terminate calls the handler, which begins
  abbrev pub middle : State
  middle = record { top = waiting_terminate m; frames = st.top ∷ st.frames; world = ending_world v }

  abbrev pub next : State
  next = in_handler q m waiting

  abbrev pub plan : Plan
  plan = opened q m v.calls (frame_for q m (waiting_terminate m ∷ st.top ∷ st.frames))

  -- no call of terminate is open, where it does not run
  pub none_waits : st.world.ending ≡ false → terminate_calls here ≡ 0
  none_waits quiet =
      let top : is_terminate_call st.top.function ≡ 0 = ap is_terminate_call at.runs in
      let others = none_terminate st.frames (by (waits_terminate st.frames) refl) in
      omega (arith, top, others)
    where
      by : (b : Bool) → waits_terminate st.frames ≡ b → waits_terminate st.frames ≡ false
      by true is = let no : false ≡ true = sym quiet ∙ at.stands.stands.stand.waits is in absurd (cc no)
      by false is = is

  -- a call that begins carries nothing
  abbrev carried_if : Bool → Option Carried
  carried_if b =
      if b then Some (record {
        word = next.top.frame.slots (x.carrying.object m);
        home = x.carrying.home m 0;
        number = next.top.frame.slots (x.carrying.selector m);
        left = x.carrying.left m 0;
      }) else None

  pub none_forced : newest_forced x.carrying None (next.top ∷ next.frames) ≡ None
  none_forced = ap (λ b. or_else (forced_carried (carried_if b)) None) (at.facts.fits.carries.first m)

  -- what the calls carry below the handler is spared, so all is
  pub spared_begun : (items : List Item) → Spared x.carrying (NotEntered items) (Some terminating) here → Spared x.carrying (NotEntered items) None (next.top ∷ next.frames)
  spared_begun items below =
      (subst (λ b. AllByRecursion (NotEntered items) (flying_in (carried_if b))) (sym (at.facts.fits.carries.first m)) tt, tt, (tt, tt, below))

  module _ (ends : EndsIn st.world v) (quiet : st.world.ending ≡ false) (known : m < length q.unit.functions) (one : step code st ≡ goes_to middle) (two : step code middle ≡ goes_to next) where
    pub leads : Leads code 2 st (goes_to next)
    leads = Paces.stepped code 1 st middle (goes_to next) one (Paces.one_step code middle (goes_to next) two)

    middle_reaches : Reaches (extents_of q) (unit_for x.program) (needs_for x.program) middle
    middle_reaches =
        let older = at.matches.memory.newest in
        let last = ends.last in
        let few : v.last_number ≤ st.world.last_number = omega (arith, last) in
        let goes : GoesOn (extents_of q) (extents_of q) (unit_for x.program) st.world middle =
        subst (λ u. GoesOn (extents_of q) (extents_of q) u st.world middle) at.stands.unit
        (plans_go_on.same q q st.world middle refl at.stands.reaches.objects few (λ is. let none : 0 ≡ st.world.calls = is in omega (arith, none, older))) in
        steps_reach (extents_of q) (extents_of q) (unit_for x.program) (needs_for x.program) st middle at.facts.reach at.stands.reaches (newest_was_made q st w at.matches) one goes

    next_reaches : Reaches (extents_of plan) (unit_for x.program) (needs_for x.program) next
    next_reaches =
        let goes : GoesOn (extents_of q) (extents_of plan) (unit_for x.program) middle.world next =
        subst (λ u. GoesOn (extents_of q) (extents_of plan) u middle.world next) at.stands.unit
        (plans_go_on.called q m (frame_for q m (waiting_terminate m ∷ st.top ∷ st.frames)) middle.world next (at.matches.memory.unit.frames m known) middle_reaches.objects refl refl) in
        steps_reach (extents_of q) (extents_of plan) (unit_for x.program) (needs_for x.program) middle next at.facts.reach middle_reaches ends.newest two goes

    pub shown : (turns : ℕ) (u : abi.World) (items : List Item) → Spared x.carrying (NotEntered items) None (next.top ∷ next.frames) → open_handlers v.caught ≤ open_handlers st.world.caught + turns → Matches plan next u →
        ShownBehind x.program x.carrying q plan turns st next w u items
    shown turns u items spared few matches = record {
      plan = record { frames = record { unit = refl; hidden = refl }; base = refl; tables = refl };
      aligned = align_push_two q plan (record { unit = refl; hidden = refl }) next.top (waiting_terminate m) here;
      spared = spared;
      rests = inl matches;
      few = few;
      reaches = next_reaches;
      ending = λ none. quiet;
      once = let none = none_waits quiet in omega (arith, none);
      forced = λ z now. let no : None ≡ Some z = sym none_forced ∙ now in absurd (cc no);
    }
