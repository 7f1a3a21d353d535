-- An exception without a handler is thrown, and both machines abort.
use Rattle.std.proofs.Common.{◌≡◌, ◌∙◌, refl, sym, ap, arith, ℕ, ◌+◌, Bool, true, false, List, [], ◌∷◌, append-nil, length, Option}
use Rattle.std.specs.Prelude.{if◌then◌else◌}
use Rattle.meaning_forms.specs.Outcome.{aborted}
use Rattle.run_items.specs.declared.item.Item.TheVariants.{Enter}
use Rattle.elf_image.specs.Clean.{CleanImage}
use Rattle.cxa_runtime.specs.declared.object.Object.{Object}
use Rattle.cxa_runtime.specs.Catch.{entered}
use Rattle.cxa_runtime.specs.Terminate.{terminates}
use Rattle.cxa_runtime.specs.Throw.{flying}
use Rattle.cxa_runtime.specs.World as abi
use Rattle.cxa_runtime.specs.Raising.{Image}
use Rattle.cxa_runtime.specs.Call.{call_effect}
use Rattle.eh_run.specs.Program.{program_of}
use Rattle.region_forms.specs.Form.{throw}
use Rattle.region_forms.specs.World.{World, Exception, building, native, exception_of, exception_in_slot, exception_type, exception_at}
use Rattle.region_forms.specs.Lives.{is_being_built}
use Rattle.region_forms.specs.Effect.{raises, only_where, flies, kept, entered_doomed}
use Rattle.linear_forms.specs.Linear.{plain}
use Rattle.linear_forms.specs.Search.{found}
use Rattle.linear_forms.specs.Activation.{Activation, State as LinearState, finishes, by_program, look, terminated}
use Rattle.linear_forms.specs.Machine.{step}
use Rattle.linear_forms.specs.Operation.{performed}
use Rattle.linear_forms.specs.Unwinding.{doomed, doomed_by, raised_to, unwind}
use Rattle.linear_forms.specs.UnitRun.{code_of}
use Rattle.machine_forms.specs.LinearCode.{linear_code}
use Rattle.machine_pieces.specs.Laws.{CallsAreTurns}
use Rattle.machine_stubs.specs.Calls.{asked, CallsAreMade}
use Rattle.machine_stubs.specs.Terminate.{TerminateRuns}
use Rattle.raise_simulation.specs.Raises.{RaisesAgree}
use Rattle.machine_simulation.specs.Plan.{Plan, shape}
use Rattle.machine_simulation.specs.Exceptions.{addresses_of}
use Rattle.machine_simulation.proofs.Matching.{stands_by}
use Rattle.machine_simulation.proofs.Quiet.{step_is, plain_is}
use Rattle.machine_exceptions.proofs.Enters.{exception_is}
use Rattle.machine_exceptions.proofs.Travels.{building_there}
use Rattle.machine_raises.specs.Doomed.{AtDoomed}
use Rattle.machine_raises.proofs.Native.{thrown_object}
use Rattle.machine_raises.proofs.Replaced.{replaced_in}
use Rattle.raise_ends.specs.Throws.{DoomsAbort}
use Rattle.raise_ends.proofs.Steps.{over_at_once, over_without}
use Rattle.raise_ends.proofs.Aborting.{no_handler, no_address, both_abort}
use Rattle.raise_ends.proofs.Comes.{aborts_again, aborts_without}
use Rattle.raise_ends.proofs.Asking.{may_terminate, may_from}
use Rattle.raise_ends.proofs.Throwing.{throw_lost}

-- ---- the step

pub step_dooms : (i : CleanImage) (p : Plan) (n s e t : ℕ) (d : Option ℕ) (st : LinearState) → AtDoomed i p n s e t d st → exception_at (kept e t d st.world) e ≡ native t d st.world.installed →
    step (code_of p.unit) st ≡ doomed e (st.top ∷ st.frames) (kept e t d st.world)
step_dooms i p n s e t d st at is =
    let code = code_of p.unit in
    let v : World = st.world in
    let k : World = kept e t d v in
    let fs = st.top ∷ st.frames in
    let number : exception_in_slot st.top.frame s ≡ e = ap exception_of at.may.holds.is in
    step_is p n st (plain (throw s t d)) at.runs at.there ∙ plain_is p n st (throw s t d) at.runs ∙ ap (λ c. performed code (only_where (is_being_built v c) (raises c (kept c t d v))) st.top st.frames v) number
    ∙ ap (λ b. performed code (only_where b (raises e k)) st.top st.frames v) at.being
    ∙ ap (λ o. raised_to o e fs k (λ c. unwind code (look code st.top.function st.top.place) c e st.top.function st.top.frame st.frames (flies e k))) (ap (λ o. found code st.top.function (look code st.top.function st.top.place) o st.frames) (ap exception_type is) ∙ at.lost)

-- ---- both machines

pub dooms_abort : CallsAreTurns → CallsAreMade → TerminateRuns → RaisesAgree → DoomsAbort
dooms_abort turns made runs agree i pick k p n s e t d st w h running at none many =
    let image : Image = (program_of i).image in
    let v : World = st.world in
    let being = building_there v e at.being in
    let j : World = kept e t d v in
    let u : World = entered_doomed e j in
    let fs : List Activation = st.top ∷ st.frames in
    let h0 : Option ℕ = v.installed.terminate_handler in
    let exception : Exception = native t d v.installed in
    let is : exception_at j e ≡ exception = exception_is j.live e exception (replaced_in v.live e exception building being) in
    let stood = stands_by p n st w h at.runs in
    let lost = throw_lost turns agree i p n s e t d st w h.back stood running at.there at.may being at.lost in
    let c = lost.call in
    let y : abi.World = asked c.behind c.at in
    let o : Object = thrown_object p y lost.slot t lost.function lost.has.header in
    let out : abi.World = entered o (flying o y) in
    let may = may_from image p y out refl (may_terminate image p n st w h.back 5 (length (linear_code (shape p n) (plain (throw s t d)))) stood at.named c) in
    let dooms = step_dooms i p n s e t d st at is in
    let called : (b : Bool) → st.world.ending ≡ b → call_effect 5 image (pick (c.at.last_number + 1)) y ≡ (if b then terminates image.places o.header.handlers.0 (flying o y) else terminates image.places o.header.handlers.0 out)
    = λ b ends. lost.effect (pick (c.at.last_number + 1)) ∙ ap (λ b. if b then terminates image.places o.header.handlers.0 (flying o y) else terminates image.places o.header.handlers.0 out) (c.runtime.terminating ∙ ends) in
    let steps : (b : Bool) → st.world.ending ≡ b → step (code_of p.unit) st ≡ (if b then finishes (by_program aborted) j else terminated h0 fs u)
    = λ b ends. dooms ∙ ap (λ b. if b then finishes (by_program aborted) j else doomed_by e (exception_at j e) fs j) ends ∙ ap (λ z. if b then finishes (by_program aborted) j else doomed_by e z fs j) is in
    both_abort image pick k p st w (Enter e ∷ [])
    (λ ends. (
      over_at_once p st j [] (steps true ends) (sym (append-nil v.items)),
      aborts_again made image pick k c.turns 5 o.header.handlers.0 w c.at (flying o y) c.behind [] c.runs c.calls c.asks (called true ends) (c.runtime.terminating ∙ ends) refl (omega (arith, c.few, many)),
    ))
    (λ quiet. (
      over_without p st h0 fs u (Enter e ∷ []) (steps false quiet) quiet (no_handler v h0 none quiet) refl,
      aborts_without made runs image pick k c.turns 5 o.header.handlers.0 p.unit p.base w c.at out c.behind (Enter e ∷ []) c.runs c.calls c.asks (called false quiet) (c.runtime.terminating ∙ quiet)
          (no_address (addresses_of p) h0 y.terminate_handler c.runtime.exceptions.terminate_handler (no_handler v h0 none quiet)) may (ap (λ m. Enter m ∷ []) lost.has.number) (omega (arith, c.few, many)),
    ))
