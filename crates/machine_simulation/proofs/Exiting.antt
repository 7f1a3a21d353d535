-- A call of exit is matched by the end of the run.
use Rattle.std.proofs.Common.{◌≡◌, ◌∙◌, refl, sym, ap, subst, arith, ℕ, suc, ◌+◌, ◌-◌, ◌^◌, ◌<◌, ◌≤◌, ℤ, List, [], ◌∷◌, ◌++◌, length, length-append, append-nil, Option, Some, None, inl, inr}
use Rattle.std.specs.Prelude.{slice_get}
use Rattle.cxx_ast.specs.declared.name.Builtin.TheVariants.{Exit as ExitCall}
use Rattle.meaning_forms.specs.Outcome.{exit}
use Rattle.rv64_isa.specs.declared.step.Step.TheVariants.{Ecall}
use Rattle.rv64_isa.specs.State.{State}
use Rattle.rv64_isa.specs.Step.{step_of, x}
use Rattle.cxa_runtime.specs.declared.effect.End.TheVariants.{Exit}
use Rattle.cxa_runtime.specs.World as abi
use Rattle.cxa_runtime.specs.Raising.{Image}
use Rattle.cxa_runtime.specs.Run.{Ran, run}
use Rattle.region_forms.specs.Form.{Value, call_value, builtin, int_argument, no_arguments, argument_then, Op, evaluate, call}
use Rattle.region_forms.specs.World.{number_word, World}
use Rattle.region_forms.specs.Evaluation.{with_some, value_in, words_in}
use Rattle.region_forms.specs.Effect.{ends, if_some, number_at}
use Rattle.linear_forms.specs.Linear.{LinearOp, plain}
use Rattle.linear_forms.specs.Stub.{compiled}
use Rattle.linear_forms.specs.Activation.{State as LinearState, Next, finishes, by_program}
use Rattle.linear_forms.specs.Machine.{step}
use Rattle.linear_forms.specs.Operation.{performed}
use Rattle.linear_forms.specs.UnitRun.{code_of}
use Rattle.machine_forms.specs.Bounds.{LinearFits}
use Rattle.machine_forms.specs.Registers.{sp, a0, register}
use Rattle.machine_forms.specs.Piece.{Piece}
use Rattle.machine_forms.specs.RuntimeCall.{runtime_call, exit_call}
use Rattle.machine_forms.specs.ValueCode.{needs, value_code}
use Rattle.machine_forms.specs.LinearCode.{linear_code}
use Rattle.machine_forms.specs.Routine.{op_word}
use Rattle.machine_pieces.specs.Numbers.{extended}
use Rattle.machine_pieces.specs.Standing.{Ground}
use Rattle.machine_pieces.specs.Frames.{ValueStands}
use Rattle.machine_pieces.specs.Laws.{CallsAreTurns}
use Rattle.machine_pieces.proofs.Fetching.{pieces_split}
use Rattle.machine_pieces.proofs.Stepping.{steps_then}
use Rattle.machine_pieces.proofs.Values.{code_after}
use Rattle.machine_pieces.proofs.Testing.{values_are_computed}
use Rattle.machine_pieces.proofs.Turning.{executes_turns, exit_ends}
use Rattle.machine_simulation.specs.Plan.{Plan, function, shape, slot_kinds, routine, first_word, setting}
use Rattle.machine_simulation.specs.Exits.{CallsExit, ExitsEnd}
use Rattle.machine_simulation.proofs.Asked.{value_stands}
use Rattle.machine_simulation.proofs.Words.{OperationAt, operation_at}
use Rattle.machine_simulation.proofs.Matching.{Stands, stands_by, ready_here}
use Rattle.machine_simulation.proofs.Quiet.{step_is, plain_is}

-- both operations are alike
record ExitOp (p : Plan) (n : ℕ) (e : Value) (st : LinearState) (o : LinearOp) : Type 0 where
  pieces : linear_code (shape p n) o ≡ (value_code (shape p n) (register 0) 0 e ++ []) ++ runtime_call exit_call
  fits : LinearFits o → 0 + needs e ≤ 15
  steps : (next : Next) → step (code_of p.unit) st ≡ next →
      performed (code_of p.unit) (if_some (words_in (slot_kinds p n) st.top.frame st.world (argument_then (int_argument e) no_arguments)) (λ given. ends (exit (number_at given 0)) st.world)) st.top st.frames st.world ≡ next

exit_op : (p : Plan) (n : ℕ) (e : Value) (st : LinearState) (o : LinearOp) → st.top.function ≡ compiled n → slice_get (function p n).ops st.top.place ≡ Some o → CallsExit e o → ExitOp p n e st o
exit_op p n e st o runs there (inl is) =
    let c : Op = call (builtin ExitCall) (argument_then (int_argument e) no_arguments) in
    record {
      pieces = ap (linear_code (shape p n)) is;
      fits = λ few. (subst LinearFits is few).0;
      steps = λ next h. sym (plain_is p n st c runs) ∙ sym (step_is p n st (plain c) runs (there ∙ ap Some is)) ∙ h;
    }
exit_op p n e st o runs there (inr is) =
    let c : Op = evaluate (call_value (builtin ExitCall) (argument_then (int_argument e) no_arguments)) in
    record {
      pieces = ap (linear_code (shape p n)) is;
      fits = λ few. (subst LinearFits is few).0;
      steps = λ next h. sym (plain_is p n st c runs) ∙ sym (step_is p n st (plain c) runs (there ∙ ap Some is)) ∙ h;
    }

-- the value that exit is given, and the world that it leaves
record ExitStep (p : Plan) (n : ℕ) (e : Value) (st : LinearState) (z : ℤ) (v : World) : Type 0 where
  value : value_in (slot_kinds p n) st.top.frame st.world e ≡ Some z
  world : st.world ≡ v

exit_step : (p : Plan) (n : ℕ) (e : Value) (st : LinearState) (o : LinearOp) (z : ℤ) (v : World) → ExitOp p n e st o → step (code_of p.unit) st ≡ finishes (by_program (exit z)) v → ExitStep p n e st z v
exit_step p n e st o z v op h = by (value_in (slot_kinds p n) st.top.frame st.world e) refl (op.steps (finishes (by_program (exit z)) v) h)
  where
    by : (oz : Option ℤ) → value_in (slot_kinds p n) st.top.frame st.world e ≡ oz →
        performed (code_of p.unit) (if_some (with_some (with_some oz (λ y. Some (number_word y))) (λ word. Some (word ∷ []))) (λ given. ends (exit (number_at given 0)) st.world)) st.top st.frames st.world
        ≡ finishes (by_program (exit z)) v → ExitStep p n e st z v
    by None is got = absurd (cc got)
    by (Some y) is got = let same : y ≡ z = cc got in record { value = is ∙ ap Some same; world = cc got }

pub exit_world : (p : Plan) (n : ℕ) (e : Value) (st : LinearState) (o : LinearOp) (z : ℤ) (v : World) → st.top.function ≡ compiled n → slice_get (function p n).ops st.top.place ≡ Some o → CallsExit e o →
    step (code_of p.unit) st ≡ finishes (by_program (exit z)) v → st.world ≡ v
exit_world p n e st o z v runs there calls h = (exit_step p n e st o z v (exit_op p n e st o runs there calls) h).world

exit_runs : CallsAreTurns → (image : Image) (pick : ℕ → ℕ) (k : ℕ) (p : Plan) (n : ℕ) (st : LinearState) (w : abi.World) (back : ℕ) (o : LinearOp) (e : Value) (z : ℤ) → Stands p n st w back →
    slice_get (function p n).ops st.top.place ≡ Some o → ExitOp p n e st o → ValueStands (setting p n) (shape p n) (slot_kinds p n) st.top.frame st.world e → value_in (slot_kinds p n) st.top.frame st.world e ≡ Some z →
    length (linear_code (shape p n) o) ≤ k → ((run image pick k w).items ≡ []) × ((run image pick k w).end ≡ Exit z)
exit_runs turns image pick k p n st w back o e z h there op stands is enough =
    let g : Ground = (setting p n).ground in
    let here : ℕ = first_word p n + op_word (routine p n) st.top.place in
    let s : State = w.hart in
    let front : List Piece = value_code (shape p n) (register 0) 0 e in
    let rear : List Piece = runtime_call exit_call in
    let pieces : linear_code (shape p n) o ≡ front ++ rear = op.pieces ∙ ap (λ ps. ps ++ rear) (append-nil front) in
    let own : OperationAt p s.memory n st.top.place (front ++ rear)
    = subst (OperationAt p s.memory n st.top.place) pieces (operation_at p s.memory n st.top.place o h.memory.unit h.memory.top.known there) in
    let sum : length (front ++ rear) ≡ length front + 2 = length-append front rear in
    let total : length (linear_code (shape p n) o) ≡ length front + 2 = ap length pieces ∙ sum in
    let short : length front < 2 ^ 18 = omega (arith, own.inside, sum, h.memory.unit.short n h.memory.top.known) in
    let parts = pieces_split s.memory g here front rear own.code in
    let value = values_are_computed.value (setting p n) (shape p n) (slot_kinds p n) st.top.frame st.world e z 0 here s stands is (op.fits (h.memory.unit.registers n st.top.place o there)) short parts.0 h.pc
    (ready_here p n st w back h) in
    let m : State = value.computes.goes.after in
    let at = turns.call g (here + length front) exit_call m (omega arith) (code_after g here (length front) 0 (here + length front) rear s value.computes.goes parts.1) value.computes.goes.pc
    value.computes.goes.registers in
    let steps : ℕ = value.computes.goes.steps + 1 in
    let ran = executes_turns image steps w s at.called refl (steps_then value.computes.goes.steps 1 s m at.called value.computes.goes.runs at.first) in
    let u : abi.World = ran.after in
    let stepped : step_of u.hart ≡ (Ecall, at.behind) = ap step_of ran.hart ∙ at.calls in
    let there_a0 : x at.behind a0 ≡ extended z = at.kept a0 (λ d. absurd (omega (arith, d))) ∙ value.computes.is in
    let left : ℕ = k - (steps + 1) in
    let count : k ≡ steps + suc left = omega (arith, value.computes.goes.most, total, enough) in
    let whole = ap (λ i. run image pick i w) count ∙ ran.turns.run pick (suc left) in
    let last = exit_ends image pick left u at.behind z stepped at.is there_a0 value.int in
    (ap (λ (y : Ran). y.items) whole ∙ ap (λ (y : Ran). y.items) last, ap (λ (y : Ran). y.end) whole ∙ ap (λ (y : Ran). y.end) last)

pub exits_end : CallsAreTurns → ExitsEnd
exits_end turns image pick k p n st w o e z v h runs there calls asked step enough =
    let stood = stands_by p n st w h runs in
    let op = exit_op p n e st o runs there calls in
    exit_runs turns image pick k p n st w h.back o e z stood there op (value_stands p n st.top.frame st.world w.hart.memory (x w.hart sp) h.back stood.memory.top e asked) (exit_step p n e st o z v op step).value enough
