-- All rows put together: each state that stands goes on, so that the image of a checked program is the compiled program.
use Rattle.std.proofs.Common.{◌≡◌, ◌∙◌, refl, sym, ap, subst, ℕ, ◌<◌, ◌≤◌, ◌^◌, inl, inr, arith, [], ◌∷◌, length, Option, Some, None}
use Rattle.std.specs.Prelude.{slice_get}
use Rattle.cxx_ast.specs.Checked.{IsChecked}
use Rattle.cxx_ast.specs.Plain.{Checked}
use Rattle.cxa_runtime.specs.World as abi
use Rattle.eh_run.specs.Program.{program_of}
use Rattle.region_forms.specs.World.{Word, nothing, number_word, address_word, flying, unwinding}
use Rattle.linear_forms.specs.Linear.{LinearOp}
use Rattle.linear_forms.specs.Stub.{end_catch, call_unexpected}
use Rattle.linear_forms.specs.Activation.{State, Code, fault, compiled_op, fetch}
use Rattle.linear_forms.specs.Machine.{act_on}
use Rattle.linear_forms.specs.UnitRun.{code_at}
use Rattle.flight_homes.specs.Keeps.{stub_carries, stub_home}
use Rattle.linear_invariant.specs.Calls.{WordGoes}
use Rattle.source_bounds.specs.Compiled.{unit_for}
use Rattle.source_bounds.specs.Laws.{CheckedIsLinkable}
use Rattle.machine_simulation.specs.Matches.{Matches}
use Rattle.machine_simulation.specs.Plan.{Plan, function}
use Rattle.image_tables.specs.Read.{IsImageOf}
use Rattle.machine_raises.specs.Stacks.{table_of}
use Rattle.stub_landings.specs.Rests.{FreesOnTheWay, ChecksThrown, LeavesOn, Rests}
use Rattle.whole_runs.specs.Steps.{StepsFollow}
use Rattle.whole_runs.proofs.Following.{steps_go_on}
use Rattle.compiled_runs.specs.Starts.{ImagesAreCompiled}
use Rattle.compiled_runs.specs.Enough.{ImagesHaveEnough}
use Rattle.step_law.specs.Facts.{code_for, Facts, FactsStand}
use Rattle.step_law.specs.Standing.{StandsBy, Standing, aims}
use Rattle.step_law.specs.Starts.{StartsStand}
use Rattle.step_law.specs.Rows.{Run, FollowsIn}
use Rattle.step_law.specs.Own.{StandsAt, FreedFlightsFollow, PassedFlightsFollow}
use Rattle.step_law.specs.OwnLeaves.{OwnDestructorsBeginFollow, OwnLeavesFollow}
use Rattle.step_law.specs.OwnUnwindEnds.{OwnBarredFollow, OwnUnwindsEndFollow}
use Rattle.step_law.specs.OwnUnwinds.{FreedUnwindsFollow, PassedUnwindsFollow}
use Rattle.step_law.specs.Complete.{CheckedImagesGoOn, CheckedImagesAreCompiled, CheckedImagesHaveEnough}
use Rattle.step_law.specs.Handled.{HandlesStopped, ChecksFollow}
use Rattle.kept_handlers.proofs.Runs.{runs_with_stopped}
use Rattle.step_law.proofs.Handled.{handles}
use Rattle.builtin_calls.specs.Fits.{BuiltinFits}
use Rattle.step_law.proofs.Flying.{own_carries}
use Rattle.step_law.proofs.OwnWhole.{freed_unwinds, passed_unwinds, leaves}
use Rattle.step_law.proofs.Whole.{Rows, at_any}

-- ---- all rows

pub record AllRows : Type 0 where
  pub in_compiled : Rows
  pub freed_flights : FreedFlightsFollow
  pub freed_unwinds : FreedUnwindsFollow
  pub passed_flights : PassedFlightsFollow
  pub passed_unwinds : PassedUnwindsFollow
  pub unwinds_end : OwnUnwindsEndFollow
  pub unwinds_barred : OwnBarredFollow
  pub checks : ChecksFollow
  pub leaves : OwnLeavesFollow
  pub destructors_begin : OwnDestructorsBeginFollow

module _ (rows : AllRows) (x : Run) (facts : Facts x.program x.image x.carrying x.tables)
    (fit : (n place : ℕ) (o : LinearOp) → slice_get (code_at (unit_for x.program) n).ops place ≡ Some o → BuiltinFits (length (unit_for x.program).functions) o) where
  abbrev code : Code
  code = code_for x.program

  module _ (q : Plan) (before : ℕ) (few : before < 2 ^ 40) (st : State) (w : abi.World) (stands : StandsBy x.program x.image x.carrying x.tables q before st w) where
    abbrev here : StandsAt x q before st w
    here = record { facts = facts; stands = stands }

    -- a compiled function is at an operation, or behind its last one, where there is none
    in_function : Matches q st w → FollowsIn x before st w
    in_function m = by (slice_get (function q m.number).ops st.top.place) refl
      where
        by : (o : Option LinearOp) → slice_get (function q m.number).ops st.top.place ≡ o → FollowsIn x before st w
        by (Some o) there = at_any rows.in_compiled x q before m.number few st w (fit m.number) o (record { facts = facts; stands = stands; matches = m; runs = m.runs; there = there })
        by None none =
            let own : fetch code st.top.function st.top.place ≡ None =
            ap (λ f. fetch code f st.top.place) m.runs ∙ ap (λ u. compiled_op (slice_get (code_at u m.number).ops st.top.place)) (sym stands.unit) ∙ ap compiled_op none in
            rows.in_compiled.breaks x before st w fault st.world (ap (λ y. act_on code y st.top st.frames st.world) own) (λ why is. cc is)

    -- end_catch is about to free an object on the way
    frees : FreesOnTheWay q st w → FollowsIn x before st w
    frees h = by (st.top.frame.slots 2) refl (own_carries x q before st w facts stands end_catch 2 3 h.rests.runs (λ a. refl) (ap (stub_carries end_catch) h.place) tt)
      where
        by : (word : Word) → st.top.frame.slots 2 ≡ word → WordGoes (aims x.program q (st.top ∷ st.frames) w) code st.top st.frames (record { word = st.top.frame.slots 2; home = stub_home end_catch; number = st.top.frame.slots 3; left = [] }) word st.world →
            FollowsIn x before st w
        by (flying e d) is goes = rows.freed_flights x q before e d st w here h is
        by (unwinding z) is goes = freed_unwinds rows.freed_unwinds rows.unwinds_end rows.unwinds_barred x q before z st w here h is
        by nothing is goes = absurd goes
        by (number_word k) is goes = absurd goes
        by (address_word a) is goes = absurd goes

    -- call_unexpected has left both handlers
    passes : LeavesOn q 57 17 st w → FollowsIn x before st w
    passes h = by (st.top.frame.slots 4) refl (own_carries x q before st w facts stands call_unexpected 4 5 h.rests.runs (λ a. refl) (ap (stub_carries call_unexpected) h.there) tt)
      where
        by : (word : Word) → st.top.frame.slots 4 ≡ word → WordGoes (aims x.program q (st.top ∷ st.frames) w) code st.top st.frames (record { word = st.top.frame.slots 4; home = stub_home call_unexpected; number = st.top.frame.slots 5; left = [] }) word st.world →
            FollowsIn x before st w
        by (flying e d) is goes = rows.passed_flights x q before e d st w here h is
        by (unwinding z) is goes = passed_unwinds rows.passed_unwinds rows.unwinds_end rows.unwinds_barred x q before z st w here h is
        by nothing is goes = absurd goes
        by (number_word k) is goes = absurd goes
        by (address_word a) is goes = absurd goes

    -- call_unexpected has what was stopped behind its first pad
    handled : ChecksThrown q st w → HandlesStopped st.top.frame st.world
    handled h =
        let first : 1 ≤ st.top.place = subst (λ n. 1 ≤ n) (sym h.place) (omega arith) in
        let last : st.top.place ≤ 15 = subst (λ n. n ≤ 15) (sym h.place) (omega arith) in
        let there = runs_with_stopped stands.handlers.depths st stands.handlers.state h.rests.runs first last in
        handles st.top there.0 st.world there.1

    wherever : Rests q st w → FollowsIn x before st w
    wherever (inl m) = in_function m
    wherever (inr (inl h)) = frees h
    wherever (inr (inr (inl h))) = rows.checks x q before st w here few h (handled h)
    wherever (inr (inr (inr (inl h)))) = leaves rows.leaves rows.destructors_begin x q before st w here (inl h)
    wherever (inr (inr (inr (inr (inl h))))) = leaves rows.leaves rows.destructors_begin x q before st w here (inr (inl h))
    wherever (inr (inr (inr (inr (inr h))))) = passes h

  -- each state that stands goes on
  pub steps_follow : StepsFollow (program_of x.image).image x.pick code (Standing x.program x.image x.carrying x.tables) (2 ^ 40)
  steps_follow before st w s few = wherever s.0 before few st w s.1 s.1.rests

-- So they do in the image of a checked program from where main begins.
pub checked_images_go_on : AllRows → ((p : Checked) → IsChecked p → (n place : ℕ) (o : LinearOp) → slice_get (code_at (unit_for p) n).ops place ≡ Some o → BuiltinFits (length (unit_for p).functions) o) →
    CheckedIsLinkable → FactsStand → StartsStand → CheckedImagesGoOn
checked_images_go_on rows fit linkable facts start p checked file i read stands pick input replies given s =
    let image : IsImageOf (unit_for p) i = record { linkable = linkable p checked; file = file; read = read; stands = stands } in
    let tables : ℕ → ℕ = table_of (unit_for p) i in
    let known = facts p i checked image in
    let x : Run = record { program = p; image = i; carrying = known.0; tables = tables; pick = pick } in
    steps_go_on (program_of i).image pick (code_for p) (2 ^ 40) (Standing p i known.0 tables) (steps_follow rows x known.1 (fit p checked)) s.turns _ s.after (start p i known.0 tables input replies known.1 given s)

pub checked_images_are_compiled : CheckedImagesGoOn → ImagesAreCompiled → CheckedImagesAreCompiled
checked_images_are_compiled go_on images p checked file i read stands = images p checked i (table_of (unit_for p) i) stands.image (go_on p checked file i read stands)

pub checked_images_have_enough : CheckedImagesGoOn → ImagesHaveEnough → CheckedImagesHaveEnough
checked_images_have_enough go_on images p checked file i read stands = images p checked i (table_of (unit_for p) i) stands.image (go_on p checked file i read stands)
