-- The program terminates behind some steps of call_unexpected: terminate's handler begins, or there is no room for it, or none is called.
use Rattle.std.proofs.Common.{◌≡◌, ◌∙◌, refl, sym, ap, subst, arith, ℕ, zero, suc, ◌+◌, ◌≤◌, ◌<◌, ◌⊎◌, inl, inr, Bool, true, false, List, ◌∷◌, length, Option, Some, None, if◌then◌else◌}
use Rattle.std.specs.List.{AllByRecursion}
use Rattle.meaning_forms.specs.Outcome.{aborted}
use Rattle.run_items.specs.declared.item.Item.{Item}
use Rattle.cxa_runtime.specs.declared.effect.End.TheVariants.{Stack}
use Rattle.cxa_runtime.specs.World as abi
use Rattle.eh_run.specs.Program.{program_of}
use Rattle.region_forms.specs.Form.{Op}
use Rattle.region_forms.specs.World.{World, type_at}
use Rattle.region_forms.specs.Effect.{raises, newest_of, effect}
use Rattle.linear_forms.specs.Defined.{RunsAt}
use Rattle.linear_forms.specs.Linear.{plain}
use Rattle.linear_forms.specs.Stub.{call_unexpected, terminating, linear, runtime, call_held}
use Rattle.linear_forms.specs.Activation.{Activation, State, Code, Next, goes_to, finishes, by_program, kinds, look, terminated}
use Rattle.linear_forms.specs.Machine.{step, over, exec}
use Rattle.linear_forms.specs.Pace.{paying, Leads}
use Rattle.linear_forms.specs.Search.{found}
use Rattle.linear_forms.proofs.Paces
use Rattle.flight_homes.specs.Keeps.{Carried, flying_in}
use Rattle.flight_homes.specs.Lives.{known_in}
use Rattle.flight_homes.specs.Nest.{CallsNest, waits_terminate}
use Rattle.linear_invariant.specs.Calls.{Marks}
use Rattle.linear_invariant.specs.Forced.{newest_forced, or_else, forced_carried}
use Rattle.linear_invariant.specs.Handled.{open_handlers}
use Rattle.linear_invariant.specs.Stands.{NewMarked, StandsIn}
use Rattle.linear_invariant.proofs.Calls.{Spared}
use Rattle.linear_invariant.proofs.Marks.{marks_change}
use Rattle.linear_invariant.proofs.Steps.{run_stands}
use Rattle.kept_selectors.proofs.Runs.{leads_keep}
use Rattle.source_bounds.specs.Compiled.{unit_for}
use Rattle.machine_simulation.specs.Plan.{Plan, function, shape}
use Rattle.machine_simulation.specs.Calls.{open_bytes}
use Rattle.machine_simulation.specs.Entering.{frame_for, begin_room}
use Rattle.machine_simulation.specs.Matches.{FrameIs, Matches}
use Rattle.machine_simulation.specs.Objects.{Shows}
use Rattle.machine_exceptions.specs.Terminates.{waiting_terminate, ending_world, in_handler}
use Rattle.raise_ends.specs.Ends.{RunEnds, plan_in_handler, HandlerFits}
use Rattle.runtime_invariant.specs.Aims.{is_entered}
use Rattle.stack_bounds.specs.Taken.{terminate_calls, is_terminate_call, StacksHoldCalls}
use Rattle.address_invariant.specs.Extents.{extents_of}
use Rattle.address_invariant.specs.Reaching.{Reaches}
use Rattle.address_invariant.specs.Laws.{GoesOn}
use Rattle.address_invariant.proofs.Plans.{plans_go_on}
use Rattle.address_invariant.proofs.Steps.{steps_reach}
use Rattle.unexpected_calls.specs.Overflow.{HandlerLacksRoom}
use Rattle.unexpected_calls.specs.Terminates.{BothAbort}
use Rattle.whole_runs.specs.Turns.{Made}
use Rattle.whole_runs.specs.Steps.{StaysBehind}
use Rattle.whole_runs.proofs.Staying.{deepest_grows}
use Rattle.whole_runs.proofs.Spending.{call_turns, last_turn_spends}
use Rattle.cost_words.specs.Spends.{spends}
use Rattle.step_law.specs.Facts.{regions_for, needs_for, code_for, Facts}
use Rattle.step_law.specs.Standing.{HeaderAims, IsAimed, aims, StandsBy}
use Rattle.step_law.specs.Rows.{Run, FollowsIn}
use Rattle.step_law.proofs.Handled.{leads_handled}
use Rattle.step_law.proofs.Aligned.{CallsAlign, align_push_two}
use Rattle.step_law.proofs.Bounded.{bounded, stands_bounded}
use Rattle.step_law.proofs.Facing.{code_same, newest_made}
use Rattle.step_law.proofs.HandlerBegins.{none_terminate, led_one}
use Rattle.step_law.proofs.Founded.{leads_founded}
use Rattle.step_law.proofs.Keeping.{RuntimeKept, NotEntered, CalmAt, calm_marked, unmarked_stands, PlanGoes}
use Rattle.step_law.proofs.Rooms.{room_or_none}

-- Steps that raise nothing lead to a state of call_unexpected whose step terminates in a world, with a handler if there is one, and what that raises aims
-- at no call. Where the open calls are those that were, their frames' ends are where they were; nothing that they carry is entered.
pub record IsLostBehind (x : Run) (q : Plan) (st : State) (steps : ℕ) (last : State) (v : World) (items : List Item) (more : ℕ) (h : Option ℕ) : Type 0 where
  pub leads : Leads (code_for x.program) steps st (goes_to last)
  pub runs : last.top.function ≡ call_unexpected
  pub quiet : last.world.ending ≡ st.world.ending
  pub still : v.ending ≡ st.world.ending
  pub ends : st.world.ending ≡ false → step (code_for x.program) last ≡ terminated h (last.top ∷ last.frames) v
  pub last_number : v.last_number ≡ last.world.last_number
  pub newest : newest_of v.caught ≤ v.last_number
  pub calm : (j : ℕ) (middle : State) → j < steps → Leads (code_for x.program) j st (goes_to middle) → CalmAt (code_for x.program) middle
  pub none : (op : Op) (e : ℕ) (u : World) (d : ℕ) → RunsAt (code_for x.program) last (linear (plain op)) → effect (kinds (code_for x.program) last.top.function) op last.top.frame last.world ≡ raises e u →
      found (code_for x.program) last.top.function (look (code_for x.program) last.top.function last.top.place) (type_at u e) last.frames ≡ Some d → ⊥
  pub aligned : CallsAlign q q (st.top ∷ st.frames) (last.top ∷ last.frames)
  pub spared : Spared x.carrying (NotEntered items) (Some terminating) (last.top ∷ last.frames)
  pub known : (m : ℕ) → h ≡ Some m → m < length q.unit.functions
  pub takes : (m : ℕ) → h ≡ Some m → 0 ≡ (function q m).parameters
  pub page : open_bytes q (last.top ∷ last.frames) + 0xD00 ≤ 0x100_0000
  pub frames : (n : ℕ) → n < length q.unit.functions → FrameIs (function q n)
  pub few : open_handlers v.caught ≤ open_handlers st.world.caught + more

module _ (x : Run) (q : Plan) (before : ℕ) (st : State) (w : abi.World) (facts : Facts x.program x.image x.carrying x.tables) (stands : StandsBy x.program x.image x.carrying x.tables q before st w) where
  -- both machines abort, that for linear code within so many steps
  pub abort_behind : (n most : ℕ) (items : List Item) → most ≤ spends (code_for x.program) 1 st + 64 → StaysBehind (program_of x.image).image x.pick (code_for x.program) n st w → ((k : ℕ) → most ≤ k → BothAbort (program_of x.image).image x.pick k q n st w items) → FollowsIn x before st w
  abort_behind n most items least stays ends =
      let first = ends most (omega arith) in
      inr (inl (record {
        steps = n;
        why = aborted;
        world = first.last;
        over = subst (λ c. exec c n st ≡ over (by_program aborted) first.last) (code_same x q before st w facts stands) first.linear;
        stays = stays;
        items = items;
        shows = first.shown;
        ends = record { turns = most; shows = λ k many. (ends k many).run.0; ends = λ k many. (ends k many).run.1 };
        few = least;
      }))

module _ (x : Run) (q : Plan) (before : ℕ) (st : State) (w : abi.World) (facts : Facts x.program x.image x.carrying x.tables) (stands : StandsBy x.program x.image x.carrying x.tables q before st w)
    (steps : ℕ) (last : State) (v : World) (items : List Item) (more : ℕ) (h : Option ℕ) (lost : IsLostBehind x q st steps last v items more h) where
  abbrev code : Code
  code = code_for x.program

  abbrev here : List Activation
  here = st.top ∷ st.frames

  abbrev left : List Activation
  left = last.top ∷ last.frames

  stands_last : StandsIn (aims x.program q here w) code x.carrying (stands.steps + steps) last
  stands_last = run_stands (aims x.program q here w) code x.carrying facts.fits steps stands.steps st last (λ j middle less l. calm_marked (aims x.program q here w) code middle (λ z. tt) (lost.calm j middle less l)) stands.stands lost.leads

  none_waits : st.world.ending ≡ false → terminate_calls left ≡ 0
  none_waits quiet =
      let top : is_terminate_call last.top.function ≡ 0 = ap is_terminate_call lost.runs in
      let others = none_terminate last.frames (by (waits_terminate last.frames) refl) in
      omega (arith, top, others)
    where
      by : (b : Bool) → waits_terminate last.frames ≡ b → waits_terminate last.frames ≡ false
      by true is = let no : false ≡ true = sym (lost.quiet ∙ quiet) ∙ stands_last.stand.waits is in absurd (cc no)
      by false is = is

  module _ (m : ℕ) (quiet : st.world.ending ≡ false) (some : h ≡ Some m) where
    abbrev waiting : State
    waiting = record { top = last.top; frames = last.frames; world = v }

    abbrev mid : State
    mid = record { top = waiting_terminate m; frames = left; world = ending_world v }

    abbrev go : State
    go = in_handler q m waiting

    abbrev there : List Activation
    there = go.top ∷ go.frames

    one : step code last ≡ goes_to mid
    one = lost.ends quiet ∙ ap (λ y. terminated y left v) some ∙ ap waits_unless (lost.still ∙ quiet)
      where
        waits_unless : Bool → Next
        waits_unless b = if b then finishes (by_program aborted) v else goes_to mid

    two : step code mid ≡ goes_to go
    two = subst (λ c. step c mid ≡ goes_to go) (code_same x q before st w facts stands) refl

    leads_two : Leads code 2 last (goes_to go)
    leads_two = Paces.stepped code 1 last mid (goes_to go) one (Paces.one_step code mid (goes_to go) two)

    pub leads_all : Leads code (steps + 2) st (goes_to go)
    leads_all = Paces.leads_both code steps 2 st last (goes_to go) lost.leads leads_two

    -- the last step, in which terminate calls the handler, pays for its beginning
    last_paid : spends code 1 st + 64 ≤ spends code (steps + 2) st
    last_paid =
        let paid = last_turn_spends code (steps + 1) st mid go (omega arith) (Paces.leads_both code steps 1 st last (goes_to mid) lost.leads (Paces.one_step code last (goes_to mid) one)) two (call_turns code mid go m refl refl) in
        let count : steps + 1 + 1 ≡ steps + 2 = omega arith in
        subst (λ n. spends code 1 st + 64 ≤ spends code n st) count paid

    -- what is carried where terminate is called aims at calls that stay
    abbrev near : Marks
    near = record { known = known_in (regions_for x.program); words = bounded (length left) (IsAimed q here w) }

    new_last : NewMarked near code last
    new_last = record { raised = λ op e u d runs is found_it. absurd (lost.none op e u d runs is found_it); cancelled = λ op z u runs is. (tt, tt) }

    new_mid : NewMarked near code mid
    new_mid = record { raised = λ op e u d runs is found_it. absurd (none op runs); cancelled = λ op z u runs is. (tt, tt) }
      where
        none : (op : Op) → RunsAt code mid (linear (plain op)) → ⊥
        none op runs = let no : Some (runtime (call_held 0)) ≡ Some (linear (plain op)) = runs in cc no

    new_marked : (j : ℕ) (y : State) → j < 2 → Leads code j last (goes_to y) → NewMarked near code y
    new_marked zero y less led = let same : last ≡ y = cc led in subst (λ z. NewMarked near code z) same new_last
    new_marked (suc zero) y less led = subst (λ z. NewMarked near code z) (led_one code last mid y one led) new_mid
    new_marked (suc (suc j)) y less led = absurd (omega (arith, less))

    stands_go : StandsIn near code x.carrying (stands.steps + steps + 2) go
    stands_go = run_stands near code x.carrying facts.fits 2 (stands.steps + steps) last go new_marked (stands_bounded (known_in (regions_for x.program)) (IsAimed q here w) code x.carrying (stands.steps + steps) last stands_last) leads_two

    -- a call that begins carries nothing
    abbrev carried_if : Bool → Option Carried
    carried_if b =
        if b then Some (record {
          word = go.top.frame.slots (x.carrying.object m);
          home = x.carrying.home m 0;
          number = go.top.frame.slots (x.carrying.selector m);
          left = x.carrying.left m 0;
        }) else None

    none_forced : newest_forced x.carrying None there ≡ None
    none_forced = ap (λ b. or_else (forced_carried (carried_if b)) None) (facts.fits.carries.first m)

    spared : Spared x.carrying (NotEntered items) None there
    spared = (subst (λ b. AllByRecursion (NotEntered items) (flying_in (carried_if b))) (sym (facts.fits.carries.first m)) tt, tt, (tt, tt, lost.spared))

    module _ (r0 : Plan) (plan : PlanGoes q r0) (reach : Reaches (extents_of r0) (unit_for x.program) (needs_for x.program) last) where
      abbrev r : Plan
      r = plan_in_handler r0 m waiting

      reach_mid : Reaches (extents_of r0) (unit_for x.program) (needs_for x.program) mid
      reach_mid = steps_reach (extents_of r0) (extents_of r0) (unit_for x.program) (needs_for x.program) last mid facts.reach reach (newest_made (aims x.program q here w) code x.carrying (stands.steps + steps) last stands_last) one
          (record { same = λ b begun. (refl, refl); objects = record { globals = reach.objects.globals; exceptions = λ e made. reach.objects.exceptions e (omega (arith, made, lost.last_number)) }; opened = λ new. tt })

      reach_go : Reaches (extents_of r) (unit_for x.program) (needs_for x.program) go
      reach_go =
          let frame : FrameIs (function r0 m) = subst (λ u. FrameIs (function (record r0 { unit = u }) m)) (sym plan.frames.unit) (lost.frames m (lost.known m some)) in
          let goes : GoesOn (extents_of r0) (extents_of r) (unit_for x.program) mid.world go =
          subst (λ u. GoesOn (extents_of r0) (extents_of r) u mid.world go) (plan.frames.unit ∙ stands.unit)
          (plans_go_on.called r0 m (frame_for r0 m (waiting_terminate m ∷ left)) mid.world go frame reach_mid.objects refl refl) in
          steps_reach (extents_of r0) (extents_of r) (unit_for x.program) (needs_for x.program) mid go facts.reach reach_mid lost.newest two goes

      aligned : CallsAlign q r left there
      aligned = align_push_two q r (record { unit = plan.frames.unit; hidden = plan.frames.hidden }) go.top (waiting_terminate m) left

      module _ (turns : ℕ) (u : abi.World) (kept : RuntimeKept w u items) where
        aimed_still : (e d : ℕ) → NotEntered items e → HeaderAims q here w e d → d < length left → HeaderAims r there u e d
        aimed_still e d none a below = record {
          inside = omega (arith, below);
          slot = a.slot;
          header = a.header;
          way = kept.headers a.slot a.header a.way (subst (λ y. is_entered y items ≡ false) (sym a.number) none);
          number = a.number;
          target = a.target ∙ sym (aligned.targets d below (omega (arith, below)) ∙ lost.aligned.targets d a.inside below);
          table = λ n is. a.table n (sym (aligned.calls d below (omega (arith, below)) ∙ lost.aligned.calls d a.inside below) ∙ is) ∙ ap (λ t. t n) (sym plan.tables);
        }

        stands_there : StandsIn (aims x.program r there u) code x.carrying (stands.steps + steps + 2) go
        stands_there = marks_change (known_in (regions_for x.program)) (bounded (length left) (IsAimed q here w)) (IsAimed r there u) code x.carrying (stands.steps + steps + 2) go (NotEntered items) spared
            (λ e d none can a. aimed_still e d none a.0 a.1) (λ z a. tt) stands_go

        pub handler_stands : Matches r go u → more ≤ turns → StandsBy x.program x.image x.carrying x.tables r (before + turns) go u
        handler_stands matches enough = record {
          unit = plan.frames.unit ∙ stands.unit;
          base = plan.base ∙ stands.base;
          tables_are = plan.tables ∙ stands.tables_are;
          rests = inl matches;
          frozen = kept.memory ∙ stands.frozen;
          steps = stands.steps + steps + 2;
          stands = stands_there;
          selectors = leads_keep (regions_for x.program) x.carrying facts.fits facts.stops (steps + 2) stands.steps st go (unmarked_stands x.program x.image x.carrying x.tables q before st w stands) stands.selectors leads_all;
          handlers = leads_handled x.program x.carrying (steps + 2) stands.steps st go facts.fits (unmarked_stands x.program x.image x.carrying x.tables q before st w stands) stands.handlers leads_all;
          founded = leads_founded code (steps + 2) st go stands.founded leads_all;
          few = omega (arith, lost.few, enough, stands.few);
          reaches = reach_go;
          hides = λ none. plan.frames.hidden ∙ stands.hides quiet;
          hidden = let grown = deepest_grows code (steps + 2) st go leads_all in omega (arith, stands.hidden, plan.frames.hidden, grown);
          once = let none = none_waits quiet in omega (arith, none);
          forced = λ z now. let no : None ≡ Some z = sym none_forced ∙ now in absurd (cc no);
        }

        -- the handler begins
        pub handler_begins : Made (program_of x.image).image x.pick turns w u items → Matches r go u → more ≤ turns → paying code (steps + 2) st ≤ turns → turns ≤ spends code 1 st + 64 → StaysBehind (program_of x.image).image x.pick code (steps + 2) st w → Shows st go items →
            FollowsIn x before st w
        handler_begins made matches enough paid least stays shows = inl (record {
          steps = steps + 2;
          some = omega arith;
          next = go;
          leads = leads_all;
          stays = stays;
          items = items;
          shows = shows;
          turns = turns;
          paid = paid;
          few = let all = last_paid in omega (arith, least, all);
          soon = least;
          after = u;
          made = made;
          stands = (r, handler_stands matches enough);
        })

    -- there is no room for it
    pub handler_overflows : HandlerLacksRoom q m (waiting_terminate m ∷ left) → StacksHoldCalls → (most : ℕ) → most ≤ spends code 1 st + 64 → StaysBehind (program_of x.image).image x.pick code (steps + 2) st w → Shows st go items →
        ((k : ℕ) → most ≤ k → RunEnds (program_of x.image).image x.pick k w items Stack) → FollowsIn x before st w
    handler_overflows lacks holds most least stays shows ends =
        let none = none_waits quiet in
        let before_last = deepest_grows code steps st last lost.leads in
        let nest : CallsNest (waiting_terminate m ∷ left) = (refl, stands_last.stand.nest) in
        let deep = holds q (waiting_terminate m ∷ left) m last.world.deepest (facts.frames q stands.unit) nest (omega (arith, none)) (omega (arith, stands.hidden, before_last)) (omega (arith, stands_last.stand.deep)) lacks.lacks in
        let grown = deepest_grows code 2 last go leads_two in
        inr (inr (inl (record {
          steps = steps + 2;
          next = go;
          leads = leads_all;
          stays = stays;
          deep = omega (arith, deep, grown);
          items = items;
          shows = shows;
          ends = record { turns = most; shows = λ k many. (ends k many).0; ends = λ k many. (ends k many).1 };
          few = least;
        })))

    pub fits_or_not : (HandlerFits q m waiting → FollowsIn x before st w) → (HandlerLacksRoom q m (waiting_terminate m ∷ left) → FollowsIn x before st w) → FollowsIn x before st w
    fits_or_not begin over_it = by (room_or_none (shape q m).leaf (open_bytes q (waiting_terminate m ∷ left)) (shape q m).size (let page = lost.page in let none = stands.hides quiet in omega (arith, page, none)))
      where
        by : (open_bytes q (waiting_terminate m ∷ left) + begin_room (shape q m).leaf (shape q m).size ≤ 0x100_0000) ⊎ (((shape q m).leaf ≡ false) × (0x100_0000 < open_bytes q (waiting_terminate m ∷ left) + (shape q m).size + 0x1000)) →
            FollowsIn x before st w
        by (inl room) = begin (record { taken = lost.takes m some; room = room })
        by (inr lacks) = over_it (record { looks = lacks.0; lacks = lacks.1 })

  -- with a handler or without one
  pub with_or_without : ((st.world.ending ≡ true) ⊎ (h ≡ None) → FollowsIn x before st w) → ((m : ℕ) → st.world.ending ≡ false → h ≡ Some m → FollowsIn x before st w) → FollowsIn x before st w
  with_or_without without with_one = by st.world.ending h refl refl
    where
      by : (b : Bool) (y : Option ℕ) → st.world.ending ≡ b → h ≡ y → FollowsIn x before st w
      by true y is same = without (inl is)
      by false None is same = without (inr same)
      by false (Some m) is same = with_one m is same
