-- The program calls exit, and the run ends.
use Rattle.std.specs.Prelude.{◌≡◌, ◌⊎◌, ℕ, ◌≤◌, ℤ, [], length, slice_get, Some}
use Rattle.cxx_ast.specs.declared.name.Builtin.TheVariants.{Exit as ExitCall}
use Rattle.cxa_runtime.specs.declared.effect.End.TheVariants.{Exit}
use Rattle.cxa_runtime.specs.World as abi
use Rattle.cxa_runtime.specs.Raising.{Image}
use Rattle.cxa_runtime.specs.Run.{run}
use Rattle.meaning_forms.specs.Outcome.{exit}
use Rattle.region_forms.specs.Form.{Value, call_value, builtin, int_argument, no_arguments, argument_then, evaluate, call}
use Rattle.region_forms.specs.World.{World}
use Rattle.linear_forms.specs.Linear.{LinearOp, plain}
use Rattle.linear_forms.specs.Stub.{compiled}
use Rattle.linear_forms.specs.Activation.{State, finishes, by_program}
use Rattle.linear_forms.specs.Machine.{step}
use Rattle.linear_forms.specs.UnitRun.{code_of}
use Rattle.machine_forms.specs.LinearCode.{linear_code}
use Rattle.machine_simulation.specs.Plan.{Plan, function, shape}
use Rattle.machine_simulation.specs.Matches.{Matches}
use Rattle.machine_simulation.specs.Asked.{ValueAsked}

-- an operation calls exit with the int of a value
abbrev pub CallsExit : Value → LinearOp → Type 0
CallsExit v o = (o ≡ plain (call (builtin ExitCall) (argument_then (int_argument v) no_arguments))) ⊎ (o ≡ plain (evaluate (call_value (builtin ExitCall) (argument_then (int_argument v) no_arguments))))

-- Where the machine for linear code ends since exit is called, whatever calls are open, the run of the ABI machine ends within as many
-- turns as the operation has words, shows nothing more and exits with the same number.
abbrev pub ExitsEnd : Type 0
ExitsEnd = (image : Image) (pick : ℕ → ℕ) (k : ℕ) (p : Plan) (n : ℕ) (st : State) (w : abi.World) (o : LinearOp) (e : Value) (z : ℤ) (v : World) → Matches p st w → st.top.function ≡ compiled n →
    slice_get (function p n).ops st.top.place ≡ Some o → CallsExit e o → ValueAsked p n st.top.frame st.world e → step (code_of p.unit) st ≡ finishes (by_program (exit z)) v → length (linear_code (shape p n) o) ≤ k →
    ((run image pick k w).items ≡ []) × ((run image pick k w).end ≡ Exit z)
