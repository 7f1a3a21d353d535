-- Neither what was thrown nor bad_exception is listed: the program terminates.
use Rattle.std.proofs.Common.{◌≡◌, ◌∙◌, refl, sym, ap, subst, arith, ℕ, ◌+◌, ◌≤◌, false, pos, [], ◌∷◌, append-nil, Option, Some}
use Rattle.meaning_forms.specs.World.{Installed}
use Rattle.run_items.specs.declared.item.Item.TheVariants.{Enter}
use Rattle.rv64_isa.specs.Step.{x}
use Rattle.elf_image.specs.Clean.{CleanImage}
use Rattle.cxa_runtime.specs.World as abi
use Rattle.eh_run.specs.Program.{program_of}
use Rattle.region_forms.specs.World.{of_exception, World, Exception, native, exception_of, exception_in_slot, exception_at}
use Rattle.region_forms.specs.Unexpected.{kept_with}
use Rattle.region_forms.specs.Effect.{entered}
use Rattle.linear_forms.specs.Activation.{State, terminated}
use Rattle.linear_forms.specs.Machine.{step}
use Rattle.linear_forms.specs.UnitRun.{code_of}
use Rattle.machine_forms.specs.Registers.{sp}
use Rattle.machine_pieces.specs.Turning.{Reaches}
use Rattle.machine_pieces.proofs.Turning.{turns_then}
use Rattle.machine_stubs.specs.Calls.{CallsAreMade}
use Rattle.machine_stubs.specs.Terminate.{TerminateRuns}
use Rattle.machine_stubs.specs.CallUnexpected.{UnexpectedChecks, UnexpectedAnswers}
use Rattle.machine_simulation.specs.Plan.{Plan, slot_kinds}
use Rattle.machine_simulation.specs.Matches.{MemoryMatches, Matches}
use Rattle.machine_simulation.specs.Objects.{Shows}
use Rattle.machine_simulation.proofs.Matching.{runtime_stays}
use Rattle.machine_simulation.proofs.Freeing.{beside_matches}
use Rattle.machine_simulation.proofs.Given.{same_beside}
use Rattle.machine_exceptions.specs.Leaves.{StepsTo}
use Rattle.machine_exceptions.specs.Terminates.{ending_world, in_handler}
use Rattle.machine_exceptions.proofs.Enters.{exception_is}
use Rattle.raise_ends.specs.Ends.{NoneIsCalled, HandlerFits, plan_in_handler}
use Rattle.raise_ends.proofs.Steps.{handler_in_two}
use Rattle.runtime_invariant.specs.Memory.{RunsKeepMemory}
use Rattle.unexpected_calls.specs.Lists.{ListsAnswer}
use Rattle.unexpected_calls.specs.Terminates.{BothAbort, NamesTerminate}
use Rattle.unexpected_calls.specs.Thrown.{ThrownOut, list_says, checked_state}
use Rattle.unexpected_calls.specs.Unlisted.{StoppedLives, UnlistedTerminates}
use Rattle.unexpected_calls.proofs.Steps.{steps_on, exec_on}
use Rattle.unexpected_calls.proofs.Sent.{AsksFor, for_aborts, for_begins}
use Rattle.unexpected_calls.proofs.StackEnd.{stub_end}
use Rattle.unexpected_calls.proofs.Without.{linear_ends}
use Rattle.unexpected_calls.proofs.Thrown.{thrown_checked}
use Rattle.unexpected_calls.proofs.CheckSteps.{steps_to_unlisted}
use Rattle.machine_pieces.specs.Keeping.{AreSmall}
use Rattle.machine_simulation.specs.Entering.{entry_turns}

-- ---- the step

pub terminates_unlisted : (p : Plan) (e number type : ℕ) (destructor : Option ℕ) (kept : Installed) (st : State) → exception_in_slot st.top.frame 0 ≡ number → StoppedLives st number type destructor kept →
    let waiting = checked_state 9 e (pos 2) st in step (code_of p.unit) waiting ≡ terminated kept.terminate_handler (waiting.top ∷ waiting.frames) waiting.world
terminates_unlisted p e number type destructor kept st is lives =
    let waiting : State = checked_state 9 e (pos 2) st in
    let y : Exception = native type destructor kept in
    ap (λ f. terminated (kept_with (exception_at waiting.world f)).terminate_handler (waiting.top ∷ waiting.frames) waiting.world) is
    ∙ ap (λ k. terminated (kept_with k).terminate_handler (waiting.top ∷ waiting.frames) waiting.world) (exception_is st.world.live number y lives.native)

-- ---- the turns

pub asks_unlisted : CallsAreMade → UnexpectedChecks → UnexpectedAnswers → RunsKeepMemory → ListsAnswer → (i : CleanImage) (p : Plan) (e d type : ℕ) (destructor : Option ℕ) (kept : Installed) (j type0 : ℕ) (destructor0 : Option ℕ) (kept0 : Installed) (st : State) (w : abi.World) →
    (h : ThrownOut i p e d type destructor kept j st w) → list_says p h.rests.kept.owner j type ≡ pos 2 → StoppedLives st h.rests.kept.stopped.number type0 destructor0 kept0 → NamesTerminate (program_of i).image p →
    (outer : ℕ) × AsksFor (program_of i).image p h.called.number h.rests.kept.stopped.number kept0 h.called.caller h.called.others (checked_state 9 e (pos 2) st) w outer 22 (Enter e ∷ [])
asks_unlisted made checks answers keeps lists i p e d type destructor kept j type0 destructor0 kept0 st w h says lives named =
    let image = (program_of i).image in
    let v : World = entered e st.world in
    let c = h.called in
    let chk = thrown_checked made checks keeps lists i p e d type destructor kept j 2 st w h says in
    let low : ℕ = x chk.after.hart sp in
    let same_stopped : chk.stopped.number ≡ h.rests.kept.stopped.number = sym (ap exception_of chk.stopped.is) ∙ ap exception_of h.rests.kept.stopped.is in
    let come = answers.terminates_unlisted image p.unit p.base (p.at (of_exception chk.stopped.number)) chk.after chk.stands chk.given chk.stopped.there in
    let r = come.holds in
    let over = chk.over in
    let floor = over.stands.above in
    let held = beside_matches p c.number c.caller.frame c.others v chk.after.hart.memory r.behind.memory (low + 80) over.outer low 80 over.matches (record { low = omega (arith, floor); high = omega arith }) r.kept.beside in
    let run = runtime_stays p st.frames v chk.after come.after r.kept.runtime chk.runtime in (
      over.outer,
      record {
        turns = chk.turns + come.turns;
        few = omega (arith, chk.few, come.few);
        at = come.after;
        runs = turns_then image chk.turns come.turns w chk.after come.after (Enter e ∷ []) [] chk.runs come.runs;
        behind = r.behind;
        calls = r.calls;
        asks = r.asks;
        registers = r.stands.registers;
        given = r.holds ∙ ap (λ k. p.at (of_exception k)) same_stopped;
        memory = subst (λ a. MemoryMatches p c.number c.caller.frame c.others v r.behind.memory (a + 80) over.outer) (sym r.pointer) held;
        high = omega (arith, r.pointer, floor);
        small = subst AreSmall (sym r.variables) over.registers.small;
        end = omega (arith, r.pointer, chk.pointer, stub_end p st.frames st.world w.hart.memory (x w.hart sp) h.rests.rests.back h.rests.rests.memory);
        runtime = record { input = run.input; replies = run.replies; last_number = run.last_number; terminating = run.terminating; exceptions = run.exceptions; plan = run.plan };
        type = type0;
        destructor = destructor0;
        live = lives.native;
        whole = lives.whole;
        named = named;
      },
    )

-- ---- both

calls_unlisted : CallsAreMade → TerminateRuns → UnexpectedChecks → UnexpectedAnswers → RunsKeepMemory → ListsAnswer → (i : CleanImage) (p : Plan) (e d type : ℕ) (destructor : Option ℕ) (kept : Installed) (j m type0 : ℕ) (destructor0 : Option ℕ) (kept0 : Installed) (st : State) (w : abi.World) →
    (h : ThrownOut i p e d type destructor kept j st w) → list_says p h.rests.kept.owner j type ≡ pos 2 → StoppedLives st h.rests.kept.stopped.number type0 destructor0 kept0 → NamesTerminate (program_of i).image p → st.world.ending ≡ false → kept0.terminate_handler ≡ Some m →
    p.hidden ≡ 0 → let waiting = checked_state 9 e (pos 2) st in HandlerFits p m waiting → let next = in_handler p m waiting in let items = Enter e ∷ [] in
    StepsTo (code_of p.unit) 7 st next × Shows st next items × Reaches (program_of i).image (29 + entry_turns p m) w items (λ u. Matches (plan_in_handler p m waiting) next u)
calls_unlisted made runs checks answers keeps lists i p e d type destructor kept j m type0 destructor0 kept0 st w h says lives named quiet some hidden fits =
    let waiting : State = checked_state 9 e (pos 2) st in
    let number : exception_in_slot st.top.frame 0 ≡ h.rests.kept.stopped.number = ap exception_of h.rests.kept.stopped.is in
    let two = handler_in_two p m waiting waiting kept0.terminate_handler [] (terminates_unlisted p e h.rests.kept.stopped.number type0 destructor0 kept0 st number lives) quiet some (sym (append-nil waiting.world.items)) in
    let asks = asks_unlisted made checks answers keeps lists i p e d type destructor kept j type0 destructor0 kept0 st w h says lives named in (
      steps_on (code_of p.unit) 5 2 st waiting (in_handler p m waiting) (steps_to_unlisted i p e d type destructor kept j st w h says) two.0,
      (same_beside (slot_kinds p m) waiting.world.calls 0 [] (ending_world waiting.world)).items,
      for_begins (program_of i).image p h.called.number h.rests.kept.stopped.number kept0 h.called.caller h.called.others waiting w asks.0 22 (Enter e ∷ []) asks.1 made runs m quiet some hidden fits,
    )

aborts_unlisted : CallsAreMade → TerminateRuns → UnexpectedChecks → UnexpectedAnswers → RunsKeepMemory → ListsAnswer → (i : CleanImage) (pick : ℕ → ℕ) (k : ℕ) (p : Plan) (e d type : ℕ) (destructor : Option ℕ) (kept : Installed) (j type0 : ℕ) (destructor0 : Option ℕ) (kept0 : Installed)
    (st : State) (w : abi.World) → (h : ThrownOut i p e d type destructor kept j st w) → list_says p h.rests.kept.owner j type ≡ pos 2 → StoppedLives st h.rests.kept.stopped.number type0 destructor0 kept0 → NamesTerminate (program_of i).image p →
    NoneIsCalled st.world kept0.terminate_handler → 30 ≤ k → BothAbort (program_of i).image pick k p 8 st w (Enter e ∷ [])
aborts_unlisted made runs checks answers keeps lists i pick k p e d type destructor kept j type0 destructor0 kept0 st w h says lives named none many =
    let waiting : State = checked_state 9 e (pos 2) st in
    let number : exception_in_slot st.top.frame 0 ≡ h.rests.kept.stopped.number = ap exception_of h.rests.kept.stopped.is in
    let ends = linear_ends p waiting kept0.terminate_handler (waiting.top ∷ waiting.frames) waiting.world (terminates_unlisted p e h.rests.kept.stopped.number type0 destructor0 kept0 st number lives) refl none in
    let asks = asks_unlisted made checks answers keeps lists i p e d type destructor kept j type0 destructor0 kept0 st w h says lives named in
    record {
      last = ends.0;
      linear = exec_on (code_of p.unit) 5 3 st waiting _ (steps_to_unlisted i p e d type destructor kept j st w h says) ends.1;
      shown = ends.2 ∙ append-nil waiting.world.items;
      run = for_aborts (program_of i).image p h.called.number h.rests.kept.stopped.number kept0 h.called.caller h.called.others waiting w asks.0 22 (Enter e ∷ []) asks.1 made runs pick k none many;
    }

pub unlisted_terminates : CallsAreMade → TerminateRuns → UnexpectedChecks → UnexpectedAnswers → RunsKeepMemory → ListsAnswer → UnlistedTerminates
unlisted_terminates made runs checks answers keeps lists = record {
  calls_the_handler = calls_unlisted made runs checks answers keeps lists;
  aborts = aborts_unlisted made runs checks answers keeps lists;
}
