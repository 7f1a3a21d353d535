-- A module raises an exception in a whole run, and nothing stops that: terminate's handler begins, or there is no room for it, or none is called.
use Rattle.std.proofs.Common.{◌≡◌, ◌∙◌, refl, sym, ap, subst, arith, ℕ, zero, suc, ◌+◌, ◌≤◌, ◌<◌, ◌⊎◌, inl, inr, Bool, true, false, List, [], ◌∷◌, length, Option, Some, None, is_some, if◌then◌else◌}
use Rattle.meaning_forms.specs.Outcome.{aborted}
use Rattle.run_items.specs.declared.item.Item.{Item}
use Rattle.run_items.specs.declared.item.Item.TheVariants.{Foreign}
use Rattle.cxa_runtime.specs.World as abi
use Rattle.eh_run.specs.Program.{program_of}
use Rattle.region_forms.specs.Form.{Place, Op}
use Rattle.region_forms.specs.World.{World, exception_type, type_at, nothing}
use Rattle.region_forms.specs.Effect.{raises, flies, effect}
use Rattle.linear_forms.specs.Defined.{RunsAt}
use Rattle.linear_forms.specs.Linear.{LinearOp, plain}
use Rattle.linear_forms.specs.Search.{found, found_above}
use Rattle.linear_forms.specs.Stub.{terminating, linear, runtime, call_held}
use Rattle.linear_forms.specs.Activation.{Activation, State, Code, Next, goes_to, finishes, by_program, kinds, look, at, stub_frame, function_word, terminated}
use Rattle.linear_forms.specs.Machine.{step}
use Rattle.linear_forms.specs.Operation.{act, performed}
use Rattle.linear_forms.specs.Pace.{pays_at, paying, Leads}
use Rattle.linear_forms.specs.UnitRun.{code_of}
use Rattle.linear_forms.specs.Unwinding.{raised_to, unwind, doomed_by}
use Rattle.linear_forms.proofs.Paces
use Rattle.flight_homes.specs.Nest.{CallsNest}
use Rattle.linear_invariant.specs.Stands.{NewMarked}
use Rattle.linear_invariant.proofs.Calls.{all_spared}
use Rattle.source_bounds.specs.Compiled.{unit_for}
use Rattle.machine_forms.specs.LinearCode.{linear_code}
use Rattle.machine_stubs.specs.Stretches.{stub_word}
use Rattle.machine_simulation.specs.Plan.{Plan, shape}
use Rattle.machine_simulation.specs.Calls.{open_bytes}
use Rattle.machine_simulation.specs.Entering.{frame_for, begin_room}
use Rattle.machine_simulation.specs.Matches.{Matches}
use Rattle.machine_simulation.specs.Objects.{with_object}
use Rattle.machine_exceptions.specs.Leaves.{StepsTo}
use Rattle.machine_exceptions.specs.Picks.{TurnsFor}
use Rattle.machine_exceptions.specs.Terminates.{waiting_terminate}
use Rattle.machine_exceptions.specs.Answers.{both_ints}
use Rattle.raise_ends.specs.Ends.{plan_in_handler, HandlerFits}
use Rattle.raise_ends.specs.Modules.{AtRaise, ModulesDoom}
use Rattle.handler_overflows.specs.Modules.{ModulesOverflow}
use Rattle.handler_overflows.specs.Overflow.{HandlerLacksRoom}
use Rattle.handler_overflows.proofs.Above.{builtin_leaves}
use Rattle.stack_bounds.specs.Taken.{StacksHoldCalls}
use Rattle.address_invariant.specs.Extents.{extents_of}
use Rattle.address_invariant.specs.Reaching.{Reaches}
use Rattle.address_invariant.specs.Laws.{GoesOn}
use Rattle.address_invariant.proofs.Newest.{newest_was_made}
use Rattle.address_invariant.proofs.Plans.{plans_go_on}
use Rattle.address_invariant.proofs.Steps.{steps_reach}
use Rattle.whole_runs.specs.Steps.{GoesOn as RoundGoesOn, Ends, Overflows}
use Rattle.whole_runs.specs.Turns.{Made}
use Rattle.whole_runs.proofs.Counts.{aborts_once, quiet_once}
use Rattle.whole_runs.proofs.Rounds.{pays_known, some_shown, steps_go_on_made, runs_end, steps_overflow}
use Rattle.whole_runs.proofs.Staying.{deepest_grows}
use Rattle.cost_words.specs.Spends.{spends}
use Rattle.whole_runs.proofs.Spending.{terminate_turns}
use Rattle.cxx_ast.specs.declared.name.Builtin.TheVariants.{Module}
use Rattle.step_law.specs.Facts.{needs_for, code_for}
use Rattle.step_law.specs.Standing.{Standing, aims}
use Rattle.step_law.specs.Rows.{Run, IsAt, FollowsIn}
use Rattle.step_law.proofs.Aligned.{align_push_two}
use Rattle.step_law.proofs.At.{fetches, same_code, step_acts, own_end_paid, own_paid, turn_paid}
use Rattle.step_law.proofs.Foreign.{RaisesHere, new, raised, is_foreign_there}
use Rattle.step_law.proofs.HandlerBegins.{second_step, led_one, middle, next, none_waits, none_forced, spared_begun}
use Rattle.step_law.proofs.Keeping.{NotEntered, kept_by_picked, ShownBehind, way_kept, marked_behind}
use Rattle.step_law.proofs.Raises.{is_running}
use Rattle.step_law.proofs.Rooms.{room_or_none, page_here, few_to_enter, takes_nothing}
use Rattle.step_law.proofs.Terminates.{known_handler}

module _ (x : Run) (q : Plan) (before n : ℕ) (o : LinearOp) (wants : Option Place) (st : State) (w : abi.World) (at_op : IsAt x q before n o st w) (r : RaisesHere x q n o wants st)
    (none_stops : found_above (code_for x.program) None (st.top ∷ st.frames) ≡ None) where
  abbrev code : Code
  code = code_for x.program

  abbrev here : List Activation
  here = st.top ∷ st.frames

  abbrev e : ℕ
  e = new x q before n o wants st w at_op r

  abbrev v : World
  v = raised x q before n o wants st w at_op r

  abbrev items : List Item
  items = Foreign e r.k r.token ∷ []

  abbrev handler : Option ℕ
  handler = st.world.installed.terminate_handler

  not_found : found code st.top.function (look code st.top.function st.top.place) (type_at v e) st.frames ≡ None
  not_found = ap (λ y. found code st.top.function (look code st.top.function st.top.place) y st.frames) (ap exception_type (is_foreign_there x q before n o wants st w at_op r)) ∙ none_stops

  steps : step code st ≡ terminated handler here v
  steps =
      step_acts x q before n o st w at_op ∙ ap (λ y. act code y st.top st.frames st.world) r.is ∙ ap (λ y. performed code y st.top st.frames st.world) r.does
      ∙ ap (λ y. raised_to y e here v (λ c. unwind code (look code st.top.function st.top.place) c e st.top.function st.top.frame st.frames (flies e v))) not_found
      ∙ ap (λ y. if st.world.ending then finishes (by_program aborted) v else doomed_by e y here v) (is_foreign_there x q before n o wants st w at_op r)
      ∙ by st.world.ending refl
    where
      by : (b : Bool) → st.world.ending ≡ b → (if b then finishes (by_program aborted) v else terminated handler here v) ≡ terminated handler here v
      by true is = sym (ap (λ b. if b then finishes (by_program aborted) v else at terminating 0 (stub_frame (function_word handler) nothing nothing) here (record v { ending = is_some handler })) is)
      by false is = refl

  -- it aims at none
  marked : NewMarked (aims x.program q here w) code st
  marked = record { raised = λ op y u a runs is found_it. absurd (no_target op y u a (same_op op runs) is found_it); cancelled = λ op z u runs is. tt }
    where
      same_op : (op : Op) → RunsAt code st (linear (plain op)) → r.op ≡ op
      same_op op runs =
          let same : Some (linear o) ≡ Some (linear (plain op)) = sym (fetches x q before n o st w at_op) ∙ runs in
          let one : o ≡ plain op = cc same in
          let two : plain r.op ≡ plain op = sym r.is ∙ one in cc two

      no_target : (op : Op) (y : ℕ) (u : World) (a : ℕ) → r.op ≡ op → effect (kinds code st.top.function) op st.top.frame st.world ≡ raises y u →
          found code st.top.function (look code st.top.function st.top.place) (type_at u y) st.frames ≡ Some a → ⊥
      no_target op y u a same is found_it =
          let raised : raises e v ≡ raises y u = sym r.does ∙ ap (λ z. effect (kinds code st.top.function) z st.top.frame st.world) same ∙ is in
          let number : e ≡ y = cc raised in
          let world : v ≡ u = cc raised in
          let there : found code st.top.function (look code st.top.function st.top.place) (type_at v e) st.frames ≡ Some a =
          ap (λ z. found code st.top.function (look code st.top.function st.top.place) (type_at z e) st.frames) world ∙ ap (λ z. found code st.top.function (look code st.top.function st.top.place) (type_at u z) st.frames) number ∙ found_it in
          let no : None ≡ Some a = sym not_found ∙ there in cc no

  unpaid_at : pays_at (code_of q.unit) st ≡ false
  unpaid_at = pays_known (program_of x.image).image x.pick q st w n o at_op.runs at_op.there ∙ r.unpaid

  abbrev raises_here : AtRaise x.image q n r.k r.token r.left st
  raises_here = record {
    operation = o;
    wants = wants;
    runs = at_op.runs;
    there = at_op.there;
    calls = r.called;
    reply = r.reply;
    named = at_op.facts.named ∙ ap (λ b. stub_word b terminating 0) (sym at_op.stands.base);
  }

  own_none : found_above (code_of q.unit) None here ≡ None
  own_none = subst (λ c. found_above c None here ≡ None) (sym (same_code x q before n o st w at_op)) none_stops

  -- no handler is called
  aborts : ModulesDoom → (st.world.ending ≡ true) ⊎ (handler ≡ None) → FollowsIn x before st w
  aborts run none =
      let most : ℕ = length (linear_code (shape q n) o) + 10 in
      let ends = (run.aborts x.image x.pick most q n r.k r.token r.left st w at_op.matches (is_running x q before n o st w at_op) raises_here r.room own_none none (omega arith)).0 in
      let once = aborts_once (code_of q.unit) st handler here v unpaid_at (ap (λ c. step c st) (same_code x q before n o st w at_op) ∙ steps) none in
      inr (inl (subst (λ c. Ends (program_of x.image).image x.pick c st w) (same_code x q before n o st w at_op)
      (runs_end (program_of x.image).image x.pick q st w 3 most aborted ends.0 items ends.1 once (own_end_paid x q before n o st w at_op most (omega arith)) ends.2
      (λ k many. (run.aborts x.image x.pick k q n r.k r.token r.left st w at_op.matches (is_running x q before n o st w at_op) raises_here r.room own_none none many).1))))

  module _ (m : ℕ) (quiet : st.world.ending ≡ false) (some : handler ≡ Some m) where
    abbrev active : List Activation
    active = waiting_terminate m ∷ st.top ∷ st.frames

    abbrev mid : State
    mid = middle x q before n o st w at_op m v

    abbrev go : State
    go = next x q before n o st w at_op m v

    abbrev waiting : State
    waiting = record { top = st.top; frames = st.frames; world = v }

    hidden : q.hidden ≡ 0
    hidden = at_op.stands.hides quiet

    known : m < length q.unit.functions
    known = known_handler q handler m w.terminate_handler some at_op.matches.runtime.exceptions.terminate_handler

    one : step code st ≡ goes_to mid
    one = steps ∙ ap (λ y. terminated y here v) some ∙ ap waits_unless quiet
      where
        waits_unless : Bool → Next
        waits_unless b = if b then finishes (by_program aborted) v else goes_to mid

    once : paying (code_of q.unit) 2 st ≤ 1
    once = quiet_once (code_of q.unit) st unpaid_at

    two : StepsTo (code_of q.unit) 2 st go → step code mid ≡ goes_to go
    two led = second_step code st mid go one (subst (λ c. StepsTo c 2 st go) (same_code x q before n o st w at_op) led)

    marked_mid : NewMarked (aims x.program q here w) code mid
    marked_mid = record { raised = λ op y u a runs is found_it. absurd (none op runs); cancelled = λ op z u runs is. tt }
      where
        none : (op : Op) → RunsAt code mid (linear (plain op)) → ⊥
        none op runs = let no : Some (runtime (call_held 0)) ≡ Some (linear (plain op)) = runs in cc no

    marked_before : (j : ℕ) (y : State) → j < 2 → Leads code j st (goes_to y) → NewMarked (aims x.program q here w) code y
    marked_before zero y less led = let same : st ≡ y = cc led in subst (λ z. NewMarked (aims x.program q here w) code z) same marked
    marked_before (suc zero) y less led = subst (λ z. NewMarked (aims x.program q here w) code z) (led_one code st mid y one led) marked_mid
    marked_before (suc (suc j)) y less led = absurd (omega (arith, less))

    module _ (second : step code mid ≡ goes_to go) where
      leads : Leads code 2 st (goes_to go)
      leads = Paces.stepped code 1 st mid (goes_to go) one (Paces.one_step code mid (goes_to go) second)

      -- the exception has its object in a slot
      module _ (slot : ℕ) where
        abbrev p : Plan
        p = with_object q e slot

        abbrev there : Plan
        there = plan_in_handler p m waiting

        middle_reaches : Reaches (extents_of p) (unit_for x.program) (needs_for x.program) mid
        middle_reaches =
            let older = at_op.matches.memory.newest in
            let made : GoesOn (extents_of q) (extents_of p) (unit_for x.program) st.world mid =
            subst (λ u. GoesOn (extents_of q) (extents_of p) u st.world mid) at_op.stands.unit
            (plans_go_on.made q slot st.world mid at_op.stands.reaches.objects refl (λ is. let none : 0 ≡ st.world.calls = is in omega (arith, none, older))) in
            steps_reach (extents_of q) (extents_of p) (unit_for x.program) (needs_for x.program) st mid at_op.facts.reach at_op.stands.reaches (newest_was_made q st w at_op.matches) one made

        next_reaches : Reaches (extents_of there) (unit_for x.program) (needs_for x.program) go
        next_reaches =
            let newest = newest_was_made q st w at_op.matches in
            let begins : GoesOn (extents_of p) (extents_of there) (unit_for x.program) mid.world go =
            subst (λ u. GoesOn (extents_of p) (extents_of there) u mid.world go) at_op.stands.unit
            (plans_go_on.called p m (frame_for p m active) mid.world go (at_op.matches.memory.unit.frames m known) middle_reaches.objects refl refl) in
            steps_reach (extents_of p) (extents_of there) (unit_for x.program) (needs_for x.program) mid go at_op.facts.reach middle_reaches (omega (arith, newest)) second begins

        shown : (turns : ℕ) (u : abi.World) → Matches there go u → ShownBehind x.program x.carrying q there turns st go w u items
        shown turns u matches = record {
          plan = record { frames = record { unit = refl; hidden = refl }; base = refl; tables = refl };
          aligned = align_push_two q there (record { unit = refl; hidden = refl }) go.top (waiting_terminate m) here;
          spared = spared_begun x q before n o st w at_op m v items (all_spared x.carrying (NotEntered items) (λ y. refl) (Some terminating) here);
          rests = inl matches;
          few = omega arith;
          reaches = next_reaches;
          ending = λ none. quiet;
          once = let none = none_waits x q before n o st w at_op m v quiet in omega (arith, none);
          forced = λ z now. let no : None ≡ Some z = sym (none_forced x q before n o st w at_op m v) ∙ now in absurd (cc no);
        }

        stands : (turns : ℕ) (u : abi.World) → TurnsFor (program_of x.image).image x.pick turns w u items → Matches there go u → Standing x.program x.image x.carrying x.tables (before + turns) go u
        stands turns u turned matches = (
          there,
          marked_behind x.program x.image x.carrying x.tables at_op.facts q there before turns 2 st go w u items at_op.stands leads marked_before
              (way_kept w u items (kept_by_picked (program_of x.image).image x.pick turns w u items turned)) (shown turns u matches),
        )

    -- terminate begins by the first step
    begun_paid : (turns : ℕ) → turns ≤ length (linear_code (shape q n) o) + 64 → turns ≤ spends (code_of q.unit) 1 st
    begun_paid turns least = own_paid x q before n o st w at_op turns (turn_paid x q before n o st w at_op mid turns one (terminate_turns code st mid refl) least)

    -- the handler begins
    begins : ModulesDoom → HandlerFits q m st → FollowsIn x before st w
    begins run room =
        let ran = run.calls_the_handler x.image x.pick q n m r.k r.token r.left st w at_op.matches (is_running x q before n o st w at_op) raises_here r.room own_none quiet some hidden room in
        let turns : ℕ = ran.3.turns in
        let made : Made (program_of x.image).image x.pick turns w ran.3.after items = record { run = ran.3.runs.run } in
        let more = some_shown (program_of x.image).image x.pick turns w ran.3.after (Foreign e r.k r.token) [] made in
        let few = once in
        inl (subst (λ c. RoundGoesOn (program_of x.image).image x.pick c (Standing x.program x.image x.carrying x.tables) before st w) (same_code x q before n o st w at_op)
        (steps_go_on_made (program_of x.image).image x.pick q st w (Standing x.program x.image x.carrying x.tables) before 2 go items turns ran.3.after (omega arith) ran.0.0 once ran.0.1 (omega (arith, more, few)) (begun_paid turns (let entry = few_to_enter q m in omega (arith, ran.3.few, entry))) made
        (stands (two ran.0.0) ran.1 turns ran.3.after ran.3.runs ran.3.holds)))

    -- there is no room for it
    overflows : ModulesOverflow → StacksHoldCalls → HandlerLacksRoom q m st → FollowsIn x before st w
    overflows over holds lacks =
        let most : ℕ = length (linear_code (shape q n) o) + 13 in
        let first = (over.nothing_stops x.image x.pick most q n m r.k r.token r.left st w at_op.matches (is_running x q before n o st w at_op) raises_here r.room own_none quiet some hidden lacks (omega arith)).0 in
        let none = none_waits x q before n o st w at_op m v quiet in
        let nested = at_op.stands.stands.stand.deep in
        let nest : CallsNest active = (refl, at_op.stands.stands.stand.nest) in
        let deep = holds q active m st.world.deepest (at_op.facts.frames q at_op.stands.unit) nest (omega (arith, none)) at_op.stands.hidden (omega (arith, nested)) lacks.lacks in
        let more = deepest_grows code 2 st go (leads (two first.0)) in
        inr (inr (inl (subst (λ c. Overflows (program_of x.image).image x.pick c st w) (same_code x q before n o st w at_op)
        (steps_overflow (program_of x.image).image x.pick q st w 2 go most items first.0 once (own_end_paid x q before n o st w at_op most (omega arith)) (omega (arith, deep, more)) first.1
        (λ k many.
        (over.nothing_stops x.image x.pick k q n m r.k r.token r.left st w at_op.matches (is_running x q before n o st w at_op) raises_here r.room own_none quiet some hidden lacks many).1)))))

    either : ModulesDoom → ModulesOverflow → StacksHoldCalls → FollowsIn x before st w
    either run over holds =
        by (room_or_none (shape q m).leaf (open_bytes q active) (shape q m).size
        (let page = page_here x q before n o st w at_op (builtin_leaves Module (both_ints r.called.number r.called.other) wants o r.called.calls) in let none = hidden in omega (arith, page, none)))
      where
        by : (open_bytes q active + begin_room (shape q m).leaf (shape q m).size ≤ 0x100_0000) ⊎ (((shape q m).leaf ≡ false) × (0x100_0000 < open_bytes q active + (shape q m).size + 0x1000)) → FollowsIn x before st w
        by (inl room) = begins run (record { taken = takes_nothing x.program q handler m at_op.stands.unit at_op.stands.stands.lives.handlers.terminate some; room = room })
        by (inr lacks) = overflows over holds (record { looks = lacks.0; lacks = lacks.1 })

  pub dooms_here : ModulesDoom → ModulesOverflow → StacksHoldCalls → FollowsIn x before st w
  dooms_here run over holds = by st.world.ending handler refl refl
    where
      by : (b : Bool) (y : Option ℕ) → st.world.ending ≡ b → handler ≡ y → FollowsIn x before st w
      by true y is same = aborts run (inl is)
      by false None is same = aborts run (inr same)
      by false (Some m) is same = either m is same run over holds
