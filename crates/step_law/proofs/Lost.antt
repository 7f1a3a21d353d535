-- Where the program terminates, in a whole run: the handler begins, or there is no room for it, or none is called and both machines abort.
use Rattle.std.proofs.Common.{◌≡◌, ◌∙◌, refl, sym, ap, subst, arith, ℕ, zero, suc, ◌+◌, ◌≤◌, ◌<◌, ◌⊎◌, inl, inr, Bool, true, false, List, ◌∷◌, length, Option, Some, None, is_some, if◌then◌else◌}
use Rattle.meaning_forms.specs.Outcome.{aborted}
use Rattle.run_items.specs.declared.item.Item.{Item}
use Rattle.cxa_runtime.specs.declared.effect.End.TheVariants.{Aborted, Stack}
use Rattle.cxa_runtime.specs.World as abi
use Rattle.eh_run.specs.Program.{program_of}
use Rattle.region_forms.specs.Form.{Op}
use Rattle.region_forms.specs.World.{World, nothing}
use Rattle.linear_forms.specs.Defined.{RunsAt}
use Rattle.linear_forms.specs.Linear.{LinearOp, plain}
use Rattle.linear_forms.specs.Stub.{terminating, linear, runtime, call_held}
use Rattle.linear_forms.specs.Activation.{Activation, State, Code, Next, goes_to, finishes, by_program, at, stub_frame, function_word, terminated}
use Rattle.linear_forms.specs.Machine.{step}
use Rattle.linear_forms.specs.Pace.{pays_at, linear_pays, paying, Leads}
use Rattle.linear_forms.specs.UnitRun.{code_of}
use Rattle.flight_homes.specs.Nest.{CallsNest}
use Rattle.linear_invariant.specs.Handled.{open_handlers}
use Rattle.linear_invariant.specs.Stands.{NewMarked}
use Rattle.linear_invariant.proofs.Calls.{Spared}
use Rattle.machine_pieces.specs.Turning.{Turns, Reaches}
use Rattle.machine_simulation.specs.Plan.{Plan, shape, function}
use Rattle.machine_simulation.specs.Calls.{open_bytes}
use Rattle.machine_simulation.specs.Matches.{Matches}
use Rattle.machine_simulation.specs.Objects.{Shows}
use Rattle.machine_simulation.specs.Entering.{begin_room}
use Rattle.machine_exceptions.specs.Leaves.{StepsTo}
use Rattle.machine_exceptions.specs.Terminates.{waiting_terminate}
use Rattle.raise_ends.specs.Ends.{RunEnds, LinearEnds, HandlerFits}
use Rattle.stack_bounds.specs.Taken.{StacksHoldCalls}
use Rattle.whole_runs.specs.Steps.{GoesOn as RoundGoesOn, Ends, Overflows}
use Rattle.whole_runs.proofs.Counts.{aborts_once, quiet_once}
use Rattle.whole_runs.proofs.Rounds.{pays_known, some_ending, reaches_goes_on, runs_end, steps_overflow}
use Rattle.whole_runs.proofs.Single.{made_by_turns}
use Rattle.whole_runs.proofs.Staying.{deepest_grows}
use Rattle.cost_words.specs.Spends.{spends}
use Rattle.whole_runs.proofs.Spending.{terminate_turns}
use Rattle.machine_forms.specs.LinearCode.{linear_code}
use Rattle.machine_forms.specs.Leaf.{linear_stays}
use Rattle.handler_overflows.specs.Overflow.{HandlerLacksRoom}
use Rattle.step_law.specs.Facts.{code_for}
use Rattle.step_law.specs.Standing.{Standing, aims}
use Rattle.step_law.specs.Rows.{Run, IsAt, FollowsIn}
use Rattle.step_law.proofs.At.{same_code, own_end_paid, own_paid, turn_paid}
use Rattle.step_law.proofs.HandlerBegins.{EndsIn, second_step, led_one, middle, next, plan, none_waits, spared_begun, leads, shown}
use Rattle.step_law.proofs.Keeping.{NotEntered, kept_by_turns, way_kept, marked_behind}
use Rattle.step_law.proofs.Rooms.{room_or_none, page_here}

-- An operation terminates in a world, with a handler if there is one, which takes nothing, and shows items; while terminate runs the program ends in another world. What it
-- raises aims at no call, and nothing that the open calls carry is entered.
pub record IsLost (x : Run) (q : Plan) (o : LinearOp) (st : State) (w : abi.World) (v fall : World) (items : List Item) (h : Option ℕ) : Type 0 where
  pub beside : EndsIn st.world v
  pub still : v.ending ≡ st.world.ending
  pub falls : fall.ending ≡ st.world.ending
  pub unpaid : linear_pays o ≡ false
  pub steps : step (code_for x.program) st ≡ (if st.world.ending then finishes (by_program aborted) fall else terminated h (st.top ∷ st.frames) v)
  pub marked : NewMarked (aims x.program q (st.top ∷ st.frames) w) (code_for x.program) st
  pub spared : Spared x.carrying (NotEntered items) (Some terminating) (st.top ∷ st.frames)
  pub known : (m : ℕ) → h ≡ Some m → m < length q.unit.functions
  pub takes : (m : ℕ) → h ≡ Some m → 0 ≡ (function q m).parameters
  pub leaves : linear_stays o ≡ false
  pub few : (turns : ℕ) (u : abi.World) → Turns (program_of x.image).image turns w u items → open_handlers v.caught ≤ open_handlers st.world.caught + turns

module _ (x : Run) (q : Plan) (before n : ℕ) (o : LinearOp) (st : State) (w : abi.World) (at_op : IsAt x q before n o st w) (v fall : World) (items : List Item) (h : Option ℕ) (lost : IsLost x q o st w v fall items h) where
  abbrev code : Code
  code = code_for x.program

  abbrev here : List Activation
  here = st.top ∷ st.frames

  unpaid_at : pays_at (code_of q.unit) st ≡ false
  unpaid_at = pays_known (program_of x.image).image x.pick q st w n o at_op.runs at_op.there ∙ lost.unpaid

  own_step : (y : Next) → step code st ≡ y → step (code_of q.unit) st ≡ y
  own_step y is = ap (λ c. step c st) (same_code x q before n o st w at_op) ∙ is

  abbrev ends_or : Bool → Next
  ends_or b = if b then finishes (by_program aborted) fall else terminated h here v

  quiet_steps : st.world.ending ≡ false → step code st ≡ terminated h here v
  quiet_steps quiet = lost.steps ∙ ap ends_or quiet

  -- at most one of three steps pays, where no handler is called
  ended_once : st.world.ending ≡ true → paying (code_of q.unit) 3 st ≤ 1
  ended_once ending =
      let over : step code st ≡ finishes (by_program aborted) fall = lost.steps ∙ ap ends_or ending in
      let falls : fall.ending ≡ true = lost.falls ∙ ending in
      let same : terminated h here fall ≡ finishes (by_program aborted) fall =
      ap (λ b. if b then finishes (by_program aborted) fall else at terminating 0 (stub_frame (function_word h) nothing nothing) here (record fall { ending = is_some h })) falls in
      aborts_once (code_of q.unit) st h here fall unpaid_at (own_step (terminated h here fall) (over ∙ sym same)) (inl falls)

  none_once : h ≡ None → (b : Bool) → st.world.ending ≡ b → paying (code_of q.unit) 3 st ≤ 1
  none_once none true ending = ended_once ending
  none_once none false quiet = aborts_once (code_of q.unit) st h here v unpaid_at (own_step (terminated h here v) (quiet_steps quiet)) (inr none)

  once_without : (st.world.ending ≡ true) ⊎ (h ≡ None) → paying (code_of q.unit) 3 st ≤ 1
  once_without (inl ending) = ended_once ending
  once_without (inr none) = none_once none st.world.ending refl

  -- no handler is called
  pub aborts_here : (st.world.ending ≡ true) ⊎ (h ≡ None) → (shows : List Item) (most : ℕ) → most ≤ length (linear_code (shape q n) o) + 64 → ((k : ℕ) → most ≤ k → LinearEnds q 3 st shows aborted × RunEnds (program_of x.image).image x.pick k w shows Aborted) → FollowsIn x before st w
  aborts_here none shows most least over =
      let ends = (over most (omega arith)).0 in
      inr (inl (subst (λ c. Ends (program_of x.image).image x.pick c st w) (same_code x q before n o st w at_op)
      (runs_end (program_of x.image).image x.pick q st w 3 most aborted ends.0 shows ends.1 (once_without none) (own_end_paid x q before n o st w at_op most least) ends.2 (λ k many. (over k many).1))))

  module _ (m : ℕ) (quiet : st.world.ending ≡ false) (some : h ≡ Some m) where
    abbrev active : List Activation
    active = waiting_terminate m ∷ st.top ∷ st.frames

    abbrev mid : State
    mid = middle x q before n o st w at_op m v

    abbrev go : State
    go = next x q before n o st w at_op m v

    abbrev r : Plan
    r = plan x q before n o st w at_op m v

    pub nothing_hidden : q.hidden ≡ 0
    nothing_hidden = at_op.stands.hides quiet

    known : m < length q.unit.functions
    known = lost.known m some

    one : step code st ≡ goes_to mid
    one = quiet_steps quiet ∙ ap (λ y. terminated y here v) some ∙ ap waits_unless (lost.still ∙ quiet)
      where
        waits_unless : Bool → Next
        waits_unless b = if b then finishes (by_program aborted) v else goes_to mid

    once : paying (code_of q.unit) 2 st ≤ 1
    once = quiet_once (code_of q.unit) st unpaid_at

    two : StepsTo (code_of q.unit) 2 st go → step code mid ≡ goes_to go
    two led = second_step code st mid go one (subst (λ c. StepsTo c 2 st go) (same_code x q before n o st w at_op) led)

    marked_mid : NewMarked (aims x.program q here w) code mid
    marked_mid = record { raised = λ op y u a runs is found_it. absurd (none op runs); cancelled = λ op z u runs is. tt }
      where
        none : (op : Op) → RunsAt code mid (linear (plain op)) → ⊥
        none op runs = let no : Some (runtime (call_held 0)) ≡ Some (linear (plain op)) = runs in cc no

    marked_before : (j : ℕ) (y : State) → j < 2 → Leads code j st (goes_to y) → NewMarked (aims x.program q here w) code y
    marked_before zero y less led = let same : st ≡ y = cc led in subst (λ z. NewMarked (aims x.program q here w) code z) same lost.marked
    marked_before (suc zero) y less led = subst (λ z. NewMarked (aims x.program q here w) code z) (led_one code st mid y one led) marked_mid
    marked_before (suc (suc j)) y less led = absurd (omega (arith, less))

    stands : step code mid ≡ goes_to go → (turns : ℕ) (u : abi.World) → Turns (program_of x.image).image turns w u items → Matches r go u → Standing x.program x.image x.carrying x.tables (before + turns) go u
    stands second turns u turned matches = (
      r,
      marked_behind x.program x.image x.carrying x.tables at_op.facts q r before turns 2 st go w u items at_op.stands (leads x q before n o st w at_op m v lost.beside quiet known one second) marked_before
          (way_kept w u items (kept_by_turns (program_of x.image).image turns w u items turned))
          (shown x q before n o st w at_op m v lost.beside quiet known one second turns u items (spared_begun x q before n o st w at_op m v items lost.spared) (lost.few turns u turned) matches),
    )

    paid : (turns : ℕ) (u : abi.World) → Turns (program_of x.image).image turns w u items → Matches r go u → paying (code_of q.unit) 2 st ≤ turns
    paid turns u turned matches =
        let more = some_ending (program_of x.image).image x.pick turns w u items (made_by_turns (program_of x.image).image x.pick turns w u items turned) (at_op.matches.runtime.terminating ∙ quiet) matches.runtime.terminating in
        let few = once in omega (arith, more, few)

    -- terminate begins by the first step
    begun_paid : (most : ℕ) → most ≤ length (linear_code (shape q n) o) + 64 → most ≤ spends (code_of q.unit) 1 st
    begun_paid most least = own_paid x q before n o st w at_op most (turn_paid x q before n o st w at_op mid most one (terminate_turns code st mid refl) least)

    -- the handler begins
    pub begins_here : (most : ℕ) → most ≤ length (linear_code (shape q n) o) + 64 → StepsTo (code_of q.unit) 2 st go → Shows st go items → Reaches (program_of x.image).image most w items (λ u. Matches r go u) → FollowsIn x before st w
    begins_here most least led shows reaches =
        let second = two led in
        inl (subst (λ c. RoundGoesOn (program_of x.image).image x.pick c (Standing x.program x.image x.carrying x.tables) before st w) (same_code x q before n o st w at_op)
        (reaches_goes_on (program_of x.image).image x.pick q st w (Standing x.program x.image x.carrying x.tables) before 2 go items most (λ u. Matches r go u) (omega arith) led once (begun_paid most least) shows reaches
        (λ turns u turned matches. (paid turns u turned matches, stands second turns u turned matches))))

    -- there is no room for it
    pub overflows_here : (lacks : HandlerLacksRoom q m st) → StacksHoldCalls → (most : ℕ) → most ≤ length (linear_code (shape q n) o) + 64 →
        ((k : ℕ) → most ≤ k → (StepsTo (code_of q.unit) 2 st go × Shows st go items) × RunEnds (program_of x.image).image x.pick k w items Stack) → FollowsIn x before st w
    overflows_here lacks holds most least over =
        let first = (over most (omega arith)).0 in
        let led = leads x q before n o st w at_op m v lost.beside quiet known one (two first.0) in
        let none = none_waits x q before n o st w at_op m v quiet in
        let nested = at_op.stands.stands.stand.deep in
        let nest : CallsNest active = (refl, at_op.stands.stands.stand.nest) in
        let deep = holds q active m st.world.deepest (at_op.facts.frames q at_op.stands.unit) nest (omega (arith, none)) at_op.stands.hidden (omega (arith, nested)) lacks.lacks in
        let more = deepest_grows code 2 st go led in
        inr (inr (inl (subst (λ c. Overflows (program_of x.image).image x.pick c st w) (same_code x q before n o st w at_op)
        (steps_overflow (program_of x.image).image x.pick q st w 2 go most items first.0 once (own_end_paid x q before n o st w at_op most least) (omega (arith, deep, more)) first.1 (λ k many. (over k many).1)))))

    pub either_here : (HandlerFits q m st → FollowsIn x before st w) → (HandlerLacksRoom q m st → FollowsIn x before st w) → FollowsIn x before st w
    either_here begin over = by (room_or_none (shape q m).leaf (open_bytes q active) (shape q m).size (let page = page_here x q before n o st w at_op lost.leaves in let none = nothing_hidden in omega (arith, page, none)))
      where
        by : (open_bytes q active + begin_room (shape q m).leaf (shape q m).size ≤ 0x100_0000) ⊎ (((shape q m).leaf ≡ false) × (0x100_0000 < open_bytes q active + (shape q m).size + 0x1000)) → FollowsIn x before st w
        by (inl room) = begin (record { taken = lost.takes m some; room = room })
        by (inr lacks) = over (record { looks = lacks.0; lacks = lacks.1 })

  -- with a handler or without one
  pub whatever_here : ((st.world.ending ≡ true) ⊎ (h ≡ None) → FollowsIn x before st w) → ((m : ℕ) → st.world.ending ≡ false → h ≡ Some m → FollowsIn x before st w) → FollowsIn x before st w
  whatever_here without with_one = by st.world.ending h refl refl
    where
      by : (b : Bool) (y : Option ℕ) → st.world.ending ≡ b → h ≡ y → FollowsIn x before st w
      by true y is same = without (inl is)
      by false None is same = without (inr same)
      by false (Some m) is same = with_one m is same
