-- Exceptions that are made, given back and entered, in a whole run.
use Rattle.std.proofs.Common.{◌≡◌, ◌∙◌, refl, sym, ap, subst, arith, ℕ, zero, suc, ◌+◌, ◌≤◌, ◌<◌, ◌⊎◌, inl, inr, Bool, true, false, ◌==◌, List, [], ◌∷◌, ◌++◌, Option, Some, None, if◌then◌else◌, length}
use Rattle.std.specs.List.{AllByRecursion}
use Rattle.std.proofs.lemmas.Bool.Decides.{nat_tests}
use Rattle.meaning_forms.specs.Class.{contains}
use Rattle.run_items.specs.declared.item.Item.{Item}
use Rattle.run_items.specs.declared.item.Item.TheVariants.{Make, Enter, Free}
use Rattle.cxa_runtime.specs.World as abi
use Rattle.eh_run.specs.Program.{program_of}
use Rattle.region_forms.specs.Caught.{Entry}
use Rattle.region_forms.specs.Form.{Op, make, enter}
use Rattle.region_forms.specs.Lives.{may_enter}
use Rattle.region_forms.specs.World.{address_word, object_address, exception_in_slot, with_slot, with_item, building}
use Rattle.region_forms.specs.Effect.{Effect, goes, only_where, terminates, is_full, with_new, entered, freed, effect}
use Rattle.linear_forms.specs.Defined.{IsDefined}
use Rattle.linear_forms.specs.Linear.{LinearOp, plain, pad, free}
use Rattle.linear_forms.specs.Stub.{Function, compiled, end_catch, terminating, call_unexpected, linear}
use Rattle.linear_forms.specs.Activation.{Activation, State, Code, goes_to, not_defined, next_if, kinds}
use Rattle.linear_forms.specs.Machine.{step}
use Rattle.linear_forms.specs.Operation.{performed, may_free}
use Rattle.linear_forms.specs.Pace.{pays_at, one_if, linear_pays, Leads}
use Rattle.linear_forms.proofs.Paces
use Rattle.flight_homes.specs.Keeps.{Carrying, Carried, flying_in, carried_in, destroyed_in, gone}
use Rattle.linear_invariant.specs.Handled.{open_handlers}
use Rattle.linear_invariant.specs.Held.{NoneHolds}
use Rattle.linear_invariant.proofs.Calls.{Spared, all_spared, others_spared}
use Rattle.linear_invariant.proofs.Worlds.{But}
use Rattle.linear_invariant.proofs.Lists.{few_entered}
use Rattle.linear_invariant.proofs.Asked.{enters_are_asked, frees_are_asked}
use Rattle.source_bounds.specs.Compiled.{unit_for}
use Rattle.machine_simulation.specs.Plan.{Plan, function, shape}
use Rattle.machine_simulation.specs.Exceptions.{destroyed_by, destroyed}
use Rattle.machine_simulation.specs.Matches.{Matches}
use Rattle.machine_simulation.specs.Objects.{with_object, without_object, HoldsObject, Shows}
use Rattle.machine_simulation.specs.Steps.{StepAt}
use Rattle.machine_exceptions.specs.Enters.{handlers_of, MayEnter, is_crowded, EntersRun}
use Rattle.machine_exceptions.specs.Frees.{FreesRun}
use Rattle.machine_exceptions.specs.Makes.{IsWordSlot, MakesRun}
use Rattle.stack_bounds.specs.Taken.{terminate_calls, is_terminate_call}
use Rattle.address_invariant.specs.Extents.{extents_of}
use Rattle.address_invariant.specs.Laws.{GoesOn}
use Rattle.address_invariant.proofs.Newest.{newest_was_made}
use Rattle.address_invariant.proofs.Plans.{plans_go_on}
use Rattle.address_invariant.proofs.Steps.{steps_reach}
use Rattle.operation_premises.specs.Static.{IsWord}
use Rattle.whole_runs.specs.Turns.{Made}
use Rattle.whole_runs.proofs.Rounds.{pays_known, some_shown}
use Rattle.whole_runs.proofs.Single.{goes_on_one, made_by_turns}
use Rattle.machine_forms.specs.LinearCode.{linear_code}
use Rattle.step_law.specs.Facts.{regions_for, needs_for, code_for}
use Rattle.step_law.specs.Standing.{Standing}
use Rattle.step_law.specs.Rows.{Run, IsAt, FollowsIn, MakesFollow, FreesFollow, EntersFollow}
use Rattle.step_law.proofs.Aligned.{CallsAlign, align_same}
use Rattle.step_law.proofs.At.{in_unit, is_static, fetches, same_code, step_acts, step_at, words_paid}
use Rattle.step_law.proofs.Keeping.{RuntimeKept, NotEntered, CalmAt, IsCalm, kept_by_turns, kept_by_picked, unmarked_stands, calm_forced, PlanGoes, stands_behind}
use Rattle.step_law.proofs.Returns.{undefined_breaks}

-- the next state is in the same call, and terminate runs as it did
record SameCall (st next : State) : Type 0 where
  function : next.top.function ≡ st.top.function
  frames : next.frames ≡ st.frames
  ending : next.world.ending ≡ st.world.ending

module _ (x : Run) (q : Plan) (before n : ℕ) (o : LinearOp) (st : State) (w : abi.World) (at : IsAt x q before n o st w) where
  abbrev code : Code
  code = code_for x.program

  -- a word's slot
  pub word_slot : (s : ℕ) → IsWord (function q n) s → IsWordSlot q n s
  word_slot s h = record { inside = h.inside; plain = h.plain; near = h.near }

  -- a step in the same call
  in_call : (next : State) (r : Plan) (turns : ℕ) (u : abi.World) (items : List Item) → step code st ≡ goes_to next → linear_pays o ≡ false → turns ≤ length (linear_code (shape q n) o) → CalmAt code st → SameCall st next → PlanGoes q r →
      GoesOn (extents_of q) (extents_of r) (unit_for x.program) st.world next → Spared x.carrying (NotEntered items) None (next.top ∷ next.frames) → open_handlers next.world.caught ≤ open_handlers st.world.caught + turns →
      Shows st next items → Made (program_of x.image).image x.pick turns w u items → RuntimeKept w u items → Matches r next u → FollowsIn x before st w
  in_call next r turns u items e unpaid least calm same plan on spared few shows made kept matches =
      let paid : pays_at code st ≡ false = subst (λ c. pays_at c st ≡ false) (same_code x q before n o st w at) (pays_known (program_of x.image).image x.pick q st w n o at.runs at.there ∙ unpaid) in
      let none = ap one_if paid in
      inl (goes_on_one (program_of x.image).image x.pick code st w (Standing x.program x.image x.carrying x.tables) before next items turns u e shows (omega (arith, none)) (words_paid x q before n o st w at turns least) made (
        r,
        stands_behind x.program x.image x.carrying x.tables at.facts q r before turns 1 st next w u items at.stands (Paces.one_step code st (goes_to next) e) first_calm kept (record {
          plan = plan;
          aligned = subst (λ fs. CallsAlign q r (st.top ∷ st.frames) (next.top ∷ fs)) (sym same.frames) (align_same q r plan.frames st.top next.top st.frames same.function);
          spared = spared;
          rests = inl matches;
          few = few;
          reaches = steps_reach (extents_of q) (extents_of r) (unit_for x.program) (needs_for x.program) st next at.facts.reach at.stands.reaches (newest_was_made q st w at.matches) e on;
          ending = λ not. sym same.ending ∙ not;
          once = let tops = ap is_terminate_call same.function in let others = ap terminate_calls same.frames in let less = at.stands.once in omega (arith, tops, others, less);
          forced = calm_forced x.program x.image x.carrying x.tables q before st next w u at.facts at.stands e calm kept.unwinding;
        }),
      ))
    where
      first_calm : (j : ℕ) (middle : State) → j < 1 → Leads code j st (goes_to middle) → CalmAt code middle
      first_calm zero middle less leads = let one : st ≡ middle = cc leads in subst (λ s. CalmAt code s) one calm
      first_calm (suc j) middle less leads = absurd (omega (arith, less))

  -- an operation of regions that raises nothing
  pub calm_op : (op : Op) → o ≡ plain op → IsCalm (effect (kinds code st.top.function) op st.top.frame st.world) → CalmAt code st
  calm_op op is h other runs =
      let same : Some (linear o) ≡ Some (linear (plain other)) = sym (fetches x q before n o st w at) ∙ runs in
      let one : o ≡ plain other = cc same in
      let two : plain op ≡ plain other = sym is ∙ one in
      let it : op ≡ other = cc two in
      subst (λ y. IsCalm (effect (kinds code st.top.function) y st.top.frame st.world)) it h

  -- one that is none of regions
  pub calm_other : ((op : Op) → o ≡ plain op → ⊥) → CalmAt code st
  calm_other none other runs =
      let same : Some (linear o) ≡ Some (linear (plain other)) = sym (fetches x q before n o st w at) ∙ runs in
      let one : o ≡ plain other = cc same in
      absurd (none other one)

-- ---- an exception is made

pub makes_follow : MakesRun → MakesFollow
makes_follow run x q before n s st w at room =
    let e : step code st ≡ goes_to next = step_acts x q before n (plain (make s)) st w at ∙ ap (λ b. performed code (made_or b) st.top st.frames st.world) room in
    let st_at : StepAt q st next n (plain (make s)) = step_at x q before n (plain (make s)) st w at next e in
    let slot = word_slot x q before n (plain (make s)) st w at s (is_static x q before n (plain (make s)) st w at) in
    let ran = run (program_of x.image).image x.pick q n s st next w at.matches st_at slot room in
    let older = at.matches.memory.newest in
    let plans : GoesOn (extents_of q) (extents_of (with_object q (st.world.last_number + 1) ran.1)) (unit_for x.program) st.world next =
    subst (λ u. GoesOn (extents_of q) (extents_of (with_object q (st.world.last_number + 1) ran.1)) u st.world next) at.stands.unit
    (plans_go_on.made q ran.1 st.world next at.stands.reaches.objects refl (λ is. omega (arith, is, older))) in
    in_call x q before n (plain (make s)) st w at next (with_object q (st.world.last_number + 1) ran.1) ran.3.turns ran.3.after (Make (st.world.last_number + 1) ∷ []) e refl ran.3.few
    (calm_op x q before n (plain (make s)) st w at (make s) refl (calm_made (is_full st.world))) (record { function = refl; frames = refl; ending = refl })
    (record { frames = record { unit = refl; hidden = refl }; base = refl; tables = refl }) plans (all_spared x.carrying (NotEntered (Make (st.world.last_number + 1) ∷ [])) (λ d. refl) None (next.top ∷ next.frames))
    (omega arith) ran.0 (record { run = ran.3.runs.run }) (kept_by_picked (program_of x.image).image x.pick ran.3.turns w ran.3.after (Make (st.world.last_number + 1) ∷ []) ran.3.runs) ran.3.holds
  where
    code : Code
    code = code_for x.program

    next : State
    next = record {
      top = record { function = st.top.function; place = st.top.place + 1; frame = with_slot s (address_word (object_address (st.world.last_number + 1))) st.top.frame };
      frames = st.frames;
      world = with_item (Make (st.world.last_number + 1)) (with_new building st.world);
    }

    made_or : Bool → Effect
    made_or b =
        if b then terminates st.world.installed.terminate_handler st.world else
        goes (with_slot s (address_word (object_address (st.world.last_number + 1))) st.top.frame) (with_item (Make (st.world.last_number + 1)) (with_new building st.world))

    calm_made : (b : Bool) → IsCalm (made_or b)
    calm_made true = tt
    calm_made false = tt

-- ---- one that is being built is given back

pub frees_follow : FreesRun → FreesFollow
frees_follow run x q before n s st w at = by (may_free st.top.function st.world e) (step_acts x q before n (free s) st w at)
  where
    code : Code
    code = code_for x.program

    e : ℕ
    e = exception_in_slot st.top.frame s

    next : State
    next = record { top = record { function = st.top.function; place = st.top.place + 1; frame = st.top.frame }; frames = st.frames; world = freed e st.world }

    goes_on : step code st ≡ goes_to next → FollowsIn x before st w
    goes_on here =
        let st_at : StepAt q st next n (free s) = step_at x q before n (free s) st w at next here in
        let slot = is_static x q before n (free s) st w at in
        let asked = frees_are_asked (regions_for x.program) x.carrying at.stands.steps s st at.facts.fits
        (unmarked_stands x.program x.image x.carrying x.tables q before st w at.stands) (fetches x q before n (free s) st w at) (subst IsDefined (sym here) tt) in
        let holds : HoldsObject q n st.top.frame s e = record { inside = slot.inside; near = slot.near; is = asked.has.object } in
        let ran = run (program_of x.image).image q n s e st next w at.matches st_at holds in
        let older = at.matches.memory.newest in
        let plans : GoesOn (extents_of q) (extents_of (without_object q e)) (unit_for x.program) st.world next =
        subst (λ u. GoesOn (extents_of q) (extents_of (without_object q e)) u st.world next) at.stands.unit
        (plans_go_on.same q (without_object q e) st.world next refl at.stands.reaches.objects (omega arith) (λ is. omega (arith, is, older))) in
        in_call x q before n (free s) st w at next (without_object q e) ran.1.turns ran.1.after (Free e ∷ []) here refl ran.1.few (calm_other x q before n (free s) st w at (λ op is. cc is))
        (record { function = refl; frames = refl; ending = refl }) (record { frames = record { unit = refl; hidden = refl }; base = refl; tables = refl }) plans
        (all_spared x.carrying (NotEntered (Free e ∷ [])) (λ d. refl) None (next.top ∷ next.frames)) (omega arith) ran.0
        (made_by_turns (program_of x.image).image x.pick ran.1.turns w ran.1.after (Free e ∷ []) ran.1.runs) (kept_by_turns (program_of x.image).image ran.1.turns w ran.1.after (Free e ∷ []) ran.1.runs) ran.1.holds

    by : (b : Bool) → step code st ≡ next_if b st.world (goes_to next) → FollowsIn x before st w
    by true here = goes_on here
    by false here = undefined_breaks x q before n (free s) st w at not_defined st.world here refl

-- ---- a handler begins

-- what end_catch waits for
pub gone_destroyed : (fs : List Activation) → destroyed fs ≡ gone fs
gone_destroyed [] = refl
gone_destroyed (a ∷ fs) = by a.function (gone_destroyed fs)
  where
    by : (f : Function) → destroyed fs ≡ gone fs → destroyed_by f a.frame ++ destroyed fs ≡ destroyed_in f a.frame ++ gone fs
    by (compiled m) rest = rest
    by end_catch rest = ap (λ es. exception_in_slot a.frame 0 ∷ es) rest
    by terminating rest = rest
    by call_unexpected rest = rest

pub handlers_open : (xs : List Entry) (e : ℕ) → handlers_of xs e ≤ open_handlers xs
handlers_open [] e = omega arith
handlers_open (y ∷ xs) e = let rest = handlers_open xs e in by (y.number == e) rest
  where
    by : (b : Bool) → handlers_of xs e ≤ open_handlers xs → (if b then suc y.more else handlers_of xs e) ≤ y.more + 1 + open_handlers xs
    by true rest = omega arith
    by false rest = omega (arith, rest)

-- only that one is entered
pub entered_alone : (e d : ℕ) → But e d → NotEntered (Enter e ∷ []) d
entered_alone e d other = grind (arith, nat_tests, other)

-- What none of the calls has is entered: that changes nothing for them.
pub spared_all : (k : Carrying) (items : List Item) (e : ℕ) → ((y : ℕ) → But e y → NotEntered items y) → (f : Option Function) (fs : List Activation) → NoneHolds k f fs e → Spared k (NotEntered items) f fs
spared_all k items e one f fs none = all f fs (others_spared k e f fs none)
  where
    each : (xs : List ℕ) → AllByRecursion (But e) xs → AllByRecursion (NotEntered items) xs
    each [] h = tt
    each (y ∷ ys) h = (one y h.0, each ys h.1)

    all : (f : Option Function) (fs : List Activation) → Spared k (But e) f fs → Spared k (NotEntered items) f fs
    all f [] h = tt
    all f (a ∷ fs) h = (each _ h.0, each _ h.1, all (Some a.function) fs h.2)

pub spared_others : (k : Carrying) (e : ℕ) (f : Option Function) (fs : List Activation) → NoneHolds k f fs e → Spared k (NotEntered (Enter e ∷ [])) f fs
spared_others k e f fs none = spared_all k (Enter e ∷ []) e (entered_alone e) f fs none

pub enters_follow : EntersRun → EntersFollow
enters_follow run x q before n s st w at few crowded = by (may_enter st.world e) (step_acts x q before n (plain (enter s)) st w at)
  where
    code : Code
    code = code_for x.program

    e : ℕ
    e = exception_in_slot st.top.frame s

    next : State
    next = record { top = record { function = st.top.function; place = st.top.place + 1; frame = st.top.frame }; frames = st.frames; world = entered e st.world }

    enters_or : Bool → Bool → Effect
    enters_or b c = only_where b (if c then terminates st.world.installed.terminate_handler st.world else goes st.top.frame (entered e st.world))

    calm_entered : (b c : Bool) → IsCalm (enters_or b c)
    calm_entered true true = tt
    calm_entered true false = tt
    calm_entered false c = tt

    -- nothing is carried behind a handler's beginning
    none_carried : x.carrying.carries n (st.top.place + 1) ≡ false
    none_carried = by_bool (x.carrying.carries n (st.top.place + 1)) refl
      where
        op_here : code.op_at n st.top.place ≡ Some (plain (enter s))
        op_here = in_unit x q before n (plain (enter s)) st w at

        here_not : (b : Bool) → x.carrying.carries n st.top.place ≡ b → b ≡ true → ⊥
        here_not true is on = let no : false ≡ true = at.facts.fits.carries.form n st.top.place (plain (enter s)) op_here is in cc no
        here_not false is on = cc on

        by_bool : (b : Bool) → x.carrying.carries n (st.top.place + 1) ≡ b → x.carrying.carries n (st.top.place + 1) ≡ false
        by_bool false is = is
        by_bool true is = from (at.facts.fits.carries.comes n st.top.place (st.top.place + 1) (plain (enter s)) op_here (inl (refl, refl)) is)
          where
            from : (x.carrying.carries n st.top.place ≡ true) ⊎ (plain (enter s) ≡ pad (x.carrying.object n) (x.carrying.selector n)) → x.carrying.carries n (st.top.place + 1) ≡ false
            from (inl on) = absurd (here_not true on refl)
            from (inr is_pad) = absurd (cc is_pad)

    spared_top : (f : Function) → f ≡ compiled n → AllByRecursion (NotEntered (Enter e ∷ [])) (flying_in (carried_in x.carrying f next.top)) × AllByRecursion (NotEntered (Enter e ∷ [])) (destroyed_in f next.top.frame)
    spared_top f is = subst (λ g. AllByRecursion (NotEntered (Enter e ∷ [])) (flying_in (carried_in x.carrying g next.top)) × AllByRecursion (NotEntered (Enter e ∷ [])) (destroyed_in g next.top.frame)) (sym is)
        (subst (λ b. AllByRecursion (NotEntered (Enter e ∷ [])) (flying_in (carried_if b))) (sym none_carried) tt, tt)
      where
        carried_if : Bool → Option Carried
        carried_if b =
            if b then Some (record {
              word = st.top.frame.slots (x.carrying.object n);
              home = x.carrying.home n (st.top.place + 1);
              number = st.top.frame.slots (x.carrying.selector n);
              left = x.carrying.left n (st.top.place + 1);
            }) else None

    goes_on : step code st ≡ goes_to next → FollowsIn x before st w
    goes_on here =
        let st_at : StepAt q st next n (plain (enter s)) = step_at x q before n (plain (enter s)) st w at next here in
        let slot = is_static x q before n (plain (enter s)) st w at in
        let asked = enters_are_asked (regions_for x.program) x.carrying at.stands.steps s st at.facts.fits
        (unmarked_stands x.program x.image x.carrying x.tables q before st w at.stands) (fetches x q before n (plain (enter s)) st w at) (subst IsDefined (sym here) tt) in
        let holds : HoldsObject q n st.top.frame s e = record { inside = slot.inside; near = slot.near; is = asked.has.object } in
        let handlers = handlers_open st.world.caught e in
        let turns_few = at.stands.few in
        let may : MayEnter st.frames st.world e = record { whole = ap (λ es. contains es e) (gone_destroyed st.frames) ∙ asked.has.whole; few = omega (arith, handlers, turns_few, few) } in
        let ran = run (program_of x.image).image q n s e st next w at.matches st_at holds may crowded in
        let older = at.matches.memory.newest in
        let made = made_by_turns (program_of x.image).image x.pick ran.1.turns w ran.1.after (Enter e ∷ []) ran.1.runs in
        let some = some_shown (program_of x.image).image x.pick ran.1.turns w ran.1.after (Enter e) [] made in
        let more = few_entered e st.world.caught in
        let plans : GoesOn (extents_of q) (extents_of q) (unit_for x.program) st.world next =
        subst (λ u. GoesOn (extents_of q) (extents_of q) u st.world next) at.stands.unit (plans_go_on.same q q st.world next refl at.stands.reaches.objects (omega arith) (λ is. omega (arith, is, older))) in
        let top = spared_top st.top.function at.runs in
        in_call x q before n (plain (enter s)) st w at next q ran.1.turns ran.1.after (Enter e ∷ []) here refl ran.1.few
        (calm_op x q before n (plain (enter s)) st w at (enter s) refl (calm_entered (may_enter st.world e) (is_crowded st.world e))) (record { function = refl; frames = refl; ending = refl })
        (record { frames = record { unit = refl; hidden = refl }; base = refl; tables = refl }) plans (top.0, top.1, spared_others x.carrying e (Some st.top.function) st.frames asked.has.unheld)
        (omega (arith, some, more)) ran.0 made (kept_by_turns (program_of x.image).image ran.1.turns w ran.1.after (Enter e ∷ []) ran.1.runs) ran.1.holds

    by : (b : Bool) → step code st ≡ performed code (enters_or b (is_crowded st.world e)) st.top st.frames st.world → FollowsIn x before st w
    by true here = goes_on (here ∙ ap (λ c. performed code (enters_or true c) st.top st.frames st.world) crowded)
    by false here = undefined_breaks x q before n (plain (enter s)) st w at not_defined st.world here refl
