-- The return of main is matched by the end of the run.
use Rattle.std.proofs.Common.{◌≡◌, ◌∙◌, refl, sym, ap, subst, arith, ℕ, suc, ◌+◌, ◌-◌, ◌%◌, ◌^◌, ◌<◌, ◌≤◌, ℤ, List, [], length, Option, Some, None}
use Rattle.std.specs.Prelude.{slice_get}
use Rattle.meaning_forms.specs.Outcome.{exit}
use Rattle.rv64_isa.specs.declared.step.Step.TheVariants.{Ecall}
use Rattle.rv64_isa.specs.State.{State}
use Rattle.rv64_isa.specs.Step.{step_of, x}
use Rattle.cxa_runtime.specs.declared.effect.End.TheVariants.{Exit}
use Rattle.cxa_runtime.specs.World as abi
use Rattle.cxa_runtime.specs.Raising.{Image}
use Rattle.cxa_runtime.specs.Run.{Ran, run}
use Rattle.region_forms.specs.World.{World}
use Rattle.region_forms.specs.Evaluation.{value_in}
use Rattle.linear_forms.specs.Linear.{return}
use Rattle.linear_forms.specs.Stub.{compiled}
use Rattle.linear_forms.specs.Activation.{State as LinearState, finishes, by_program, kinds}
use Rattle.linear_forms.specs.Machine.{step}
use Rattle.linear_forms.specs.Operation.{returned_with}
use Rattle.linear_forms.specs.UnitRun.{code_of}
use Rattle.region_forms.specs.Effect.{result_in}
use Rattle.machine_forms.specs.Registers.{sp, a0}
use Rattle.machine_forms.specs.RuntimeCall.{runtime_call, exit_call}
use Rattle.machine_forms.specs.LinearCode.{linear_code}
use Rattle.machine_forms.specs.StubCode.{start_routine}
use Rattle.machine_forms.specs.Emitted.{stub_target}
use Rattle.machine_pieces.specs.Numbers.{extended}
use Rattle.machine_pieces.specs.Standing.{Ground, PiecesAt}
use Rattle.machine_pieces.specs.UnitAt.{routine_ground}
use Rattle.machine_pieces.specs.Laws.{CallsAreTurns}
use Rattle.machine_pieces.proofs.Stepping.{steps_then}
use Rattle.machine_pieces.proofs.Turning.{executes_turns, exit_ends}
use Rattle.machine_simulation.specs.Plan.{Plan, function, shape, slot_kinds}
use Rattle.machine_simulation.specs.Calls.{CallsWait, start_back}
use Rattle.machine_simulation.specs.Matches.{UnitStands}
use Rattle.machine_simulation.specs.Ending.{MainsEnd}
use Rattle.machine_simulation.proofs.Words.{even_base}
use Rattle.machine_simulation.proofs.Matching.{stands_by}
use Rattle.machine_simulation.proofs.Quiet.{step_is}
use Rattle.machine_simulation.proofs.Returning.{result_value, result_is, CameBack, comes_back}

-- the value that main gives
end_value : (p : Plan) (n : ℕ) (st : LinearState) (r : Option ℕ) (z : ℤ) (v : World) → st.top.function ≡ compiled n → slice_get (function p n).ops st.top.place ≡ Some (return r) → st.frames ≡ [] →
    step (code_of p.unit) st ≡ finishes (by_program (exit z)) v → value_in (slot_kinds p n) st.top.frame st.world (result_value r) ≡ Some z
end_value p n st r z v runs there frames h =
    by (value_in (slot_kinds p n) st.top.frame st.world (result_value r)) refl
    (ap (λ o. returned_with (code_of p.unit) o [] st.world) (sym (result_is (slot_kinds p n) r st.top.frame st.world))
    ∙ ap (λ gs. returned_with (code_of p.unit) (result_in r st.top.frame st.world (slot_kinds p n)) gs st.world) (sym frames)
    ∙ ap (λ f. returned_with (code_of p.unit) (result_in r st.top.frame st.world (kinds (code_of p.unit) f)) st.frames st.world) (sym runs)
    ∙ sym (step_is p n st (return r) runs there) ∙ h)
  where
    by : (o : Option ℤ) → value_in (slot_kinds p n) st.top.frame st.world (result_value r) ≡ o → returned_with (code_of p.unit) o [] st.world ≡ finishes (by_program (exit z)) v →
        value_in (slot_kinds p n) st.top.frame st.world (result_value r) ≡ Some z
    by None is e = absurd (cc e)
    by (Some y) is e = let same : y ≡ z = cc e in is ∙ ap Some same

-- and the world that it leaves
pub end_world : (p : Plan) (n : ℕ) (st : LinearState) (r : Option ℕ) (z : ℤ) (v : World) → st.top.function ≡ compiled n → slice_get (function p n).ops st.top.place ≡ Some (return r) → st.frames ≡ [] →
    step (code_of p.unit) st ≡ finishes (by_program (exit z)) v → st.world ≡ v
end_world p n st r z v runs there frames h =
    by (value_in (slot_kinds p n) st.top.frame st.world (result_value r))
    (ap (λ o. returned_with (code_of p.unit) o [] st.world) (sym (result_is (slot_kinds p n) r st.top.frame st.world))
    ∙ ap (λ gs. returned_with (code_of p.unit) (result_in r st.top.frame st.world (slot_kinds p n)) gs st.world) (sym frames)
    ∙ ap (λ f. returned_with (code_of p.unit) (result_in r st.top.frame st.world (kinds (code_of p.unit) f)) st.frames st.world) (sym runs)
    ∙ sym (step_is p n st (return r) runs there) ∙ h)
  where
    by : (o : Option ℤ) → returned_with (code_of p.unit) o [] st.world ≡ finishes (by_program (exit z)) v → st.world ≡ v
    by None e = absurd (cc e)
    by (Some y) e = cc e

exits : CallsAreTurns → (image : Image) (pick : ℕ → ℕ) (k : ℕ) (p : Plan) (n : ℕ) (w : abi.World) (z : ℤ) (before : List ℕ) (r : Option ℕ) → UnitStands p w.hart.memory → CameBack p n (start_back p) z before r w.hart →
    length (linear_code (shape p n) (return r)) + 2 ≤ k → ((run image pick k w).items ≡ []) × ((run image pick k w).end ≡ Exit z)
exits turns image pick k p n w z before r unit h some =
    let g : Ground = routine_ground p.unit p.base (λ t. stub_target t) 0 start_routine in
    let t : State = h.after in
    let code : PiecesAt w.hart.memory g 2 (runtime_call exit_call) = (unit.stubs.start.1.1.0, (unit.stubs.start.1.1.1.0, tt)) in
    let at = turns.call g 2 0 t (omega arith) (subst (λ ps. PiecesAt ps g 2 (runtime_call exit_call)) (sym h.memory) code) h.pc h.registers in
    let steps : ℕ = h.steps + 1 in
    let ran = executes_turns image steps w w.hart at.called refl (steps_then h.steps 1 w.hart t at.called h.runs at.first) in
    let v : abi.World = ran.after in
    let stepped : step_of v.hart ≡ (Ecall, at.behind) = ap step_of ran.hart ∙ at.calls in
    let value : x at.behind a0 ≡ extended z = at.kept a0 (λ e. absurd (omega (arith, e))) ∙ h.value in
    let left : ℕ = k - (steps + 1) in
    let count : k ≡ steps + suc left = omega (arith, h.most, some) in
    let whole = ap (λ i. run image pick i w) count ∙ ran.turns.run pick (suc left) in
    let last = exit_ends image pick left v at.behind z stepped at.is value h.int in
    (ap (λ (y : Ran). y.items) whole ∙ ap (λ (y : Ran). y.items) last, ap (λ (y : Ran). y.end) whole ∙ ap (λ (y : Ran). y.end) last)

pub mains_end : CallsAreTurns → MainsEnd
mains_end turns image pick k p n st w r z v h runs there frames result e some =
    let stood = stands_by p n st w h runs in
    let waiting : CallsWait p [] st.world w.hart.memory (x w.hart sp + (shape p n).size) h.back st.top.frame.call
    = subst (λ gs. CallsWait p gs st.world w.hart.memory (x w.hart sp + (shape p n).size) h.back st.top.frame.call) frames stood.memory.waiting in
    let small : h.back < 2 ^ 64 = omega (arith, waiting.0, stood.memory.unit.stubs.start.1.1.0.word.below) in
    let even : h.back % 4 ≡ 0 = omega (arith, waiting.0, even_base p w.hart.memory stood.memory.unit) in
    let came = comes_back p n st w h.back r z stood there result (end_value p n st r z v runs there frames e) even small in
    exits turns image pick k p n w z stood.kept.before r stood.memory.unit (subst (λ b. CameBack p n b z stood.kept.before r w.hart) waiting.0 came) some
