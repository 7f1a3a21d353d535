-- Operations that terminate at once, and throws that nothing stops.
use Rattle.std.proofs.Common.{◌≡◌, ◌∙◌, refl, sym, ap, subst, arith, ◌+◌, [], ◌∷◌, append-nil}
use Rattle.std.specs.Prelude.{if◌then◌else◌}
use Rattle.meaning_forms.specs.Outcome.{aborted}
use Rattle.run_items.specs.declared.item.Item.TheVariants.{Enter}
use Rattle.rv64_isa.specs.Step.{x}
use Rattle.cxa_runtime.specs.World as abi
use Rattle.cxa_runtime.specs.Raising.{Image}
use Rattle.eh_run.specs.Program.{program_of}
use Rattle.region_forms.specs.Form.{throw}
use Rattle.linear_forms.specs.Linear.{plain}
use Rattle.region_forms.specs.World.{World, Exception, building, native, exception_at}
use Rattle.region_forms.specs.Effect.{kept}
use Rattle.linear_forms.specs.Activation.{State as LinearState, finishes, by_program, terminated}
use Rattle.linear_forms.specs.Machine.{step}
use Rattle.linear_forms.specs.Unwinding.{doomed_by}
use Rattle.linear_forms.specs.UnitRun.{code_of}
use Rattle.machine_forms.specs.Registers.{sp}
use Rattle.machine_pieces.specs.Laws.{CallsAreTurns}
use Rattle.machine_stubs.specs.Calls.{asked, CallsAreMade}
use Rattle.machine_stubs.specs.Terminate.{TerminateRuns}
use Rattle.raise_simulation.specs.Raises.{RaisesAgree}
use Rattle.machine_simulation.specs.Calls.{open_bytes}
use Rattle.machine_simulation.specs.Exceptions.{addresses_of, IsFunction}
use Rattle.machine_simulation.specs.Matches.{MemoryMatches}
use Rattle.machine_simulation.proofs.Calling.{stack_at}
use Rattle.machine_simulation.proofs.Matching.{stands_by}
use Rattle.machine_exceptions.proofs.Enters.{exception_is}
use Rattle.machine_exceptions.proofs.Terminates.{called}
use Rattle.machine_exceptions.proofs.Terminating.{terminating_step}
use Rattle.machine_exceptions.proofs.Travels.{building_there}
use Rattle.machine_raises.specs.Doomed.{doomed_state}
use Rattle.machine_raises.proofs.Dooms.{doom_called}
use Rattle.machine_raises.proofs.Replaced.{replaced_in}
use Rattle.stack_bounds.specs.Overflow.{FunctionsOverflow}
use Rattle.raise_ends.proofs.Steps.{handler_in_two}
use Rattle.raise_ends.proofs.Throws.{step_dooms}
use Rattle.handler_overflows.proofs.Above.{terminating_leaves, page_free}
use Rattle.handler_overflows.specs.AtOnce.{TerminatesOverflow}
use Rattle.handler_overflows.specs.Throws.{DoomsOverflow}
use Rattle.handler_overflows.proofs.Called.{Called, called_overflows}

pub terminates_overflow : CallsAreTurns → CallsAreMade → TerminateRuns → FunctionsOverflow → TerminatesOverflow
terminates_overflow turns made runs over image pick k p n m st w h at quiet installed hidden lacks many =
    let v : World = st.world in
    let stood = stands_by p n st w h at.runs in
    let c = called turns image p n st w h.back stood at in
    let t : abi.World = asked c.behind c.at in
    let one : Called image pick p n m st.top.frame st.frames v w h.back (open_bytes p (st.top ∷ st.frames)) [] = record {
      turns = c.turns;
      at = c.at;
      runs = c.runs;
      number = c.number;
      behind = c.calls.behind;
      calls = c.calls.calls;
      asks = c.calls.asks;
      handler = c.at.terminate_handler;
      to = t;
      effect = c.calls.effect (pick (c.at.last_number + 1));
      quiet = c.runtime.terminating ∙ quiet;
      known = subst (λ o. IsFunction (addresses_of p) o c.at.terminate_handler) installed c.runtime.exceptions.terminate_handler;
      may = c.may;
      memory = subst (λ ps. MemoryMatches p n st.top.frame st.frames v ps (x c.behind sp) h.back) (sym c.memory) (subst (λ a. MemoryMatches p n st.top.frame st.frames v w.hart.memory a h.back) (sym c.stack) stood.memory);
      end = ap (λ a. a + open_bytes p (st.top ∷ st.frames)) c.stack ∙ stack_at p n st w h.back stood;
      shown = refl;
    } in (
      handler_in_two p m st st v.installed.terminate_handler [] (terminating_step image p n st at) quiet installed (sym (append-nil v.items)),
      called_overflows made runs over image pick k p n m st.top.frame st.frames v w h.back (open_bytes p (st.top ∷ st.frames)) [] one
          (page_free p n st w h.back at.operation stood at.there (terminating_leaves image p n st at)) lacks.looks (omega (arith, lacks.lacks, hidden)) (omega (arith, c.few, many)),
    )

pub dooms_overflow : CallsAreTurns → CallsAreMade → TerminateRuns → RaisesAgree → FunctionsOverflow → DoomsOverflow
dooms_overflow turns made runs agree over i pick k p n m s e t d st w h running at quiet installed hidden lacks many =
    let image : Image = (program_of i).image in
    let v : World = st.world in
    let being = building_there v e at.being in
    let stood = stands_by p n st w h at.runs in
    let all = doom_called turns agree i p n m s e t d st w h.back stood running at.there at.may being at.lost quiet installed at.named in
    let c = all.0 in
    let waiting : LinearState = doomed_state e t d st in
    let j : World = kept e t d v in
    let exception : Exception = native t d v.installed in
    let is : exception_at j e ≡ exception = exception_is j.live e exception (replaced_in v.live e exception building being) in
    let steps : step (code_of p.unit) st ≡ terminated v.installed.terminate_handler (st.top ∷ st.frames) waiting.world
    = step_dooms i p n s e t d st at is ∙ ap (λ b. if b then finishes (by_program aborted) j else doomed_by e (exception_at j e) (st.top ∷ st.frames) j) quiet ∙ ap (λ z. doomed_by e z (st.top ∷ st.frames) j) is in
    let one : Called image pick p n m st.top.frame st.frames waiting.world w h.back (open_bytes p (st.top ∷ st.frames)) (Enter e ∷ []) = record {
      turns = c.turns;
      at = c.at;
      runs = c.runs;
      number = c.number;
      behind = c.calls.behind;
      calls = c.calls.calls;
      asks = c.calls.asks;
      handler = c.handler;
      to = c.to;
      effect = c.calls.effect (pick (c.at.last_number + 1));
      quiet = c.runtime.terminating ∙ quiet;
      known = c.known;
      may = c.may;
      memory = c.memory;
      end = c.end;
      shown = all.2;
    } in (
      handler_in_two p m st waiting v.installed.terminate_handler (Enter e ∷ []) steps quiet installed refl,
      called_overflows made runs over image pick k p n m st.top.frame st.frames waiting.world w h.back (open_bytes p (st.top ∷ st.frames)) (Enter e ∷ []) one
          (page_free p n st w h.back (plain (throw s t d)) stood at.there refl) lacks.looks (omega (arith, lacks.lacks, hidden)) (omega (arith, all.1, many)),
    )
