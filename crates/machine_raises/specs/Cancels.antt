-- A forced unwind begins.
use Rattle.std.specs.Prelude.{◌≡◌, ◌⊎◌, ℕ, ◌+◌, ℤ, [], length, Some}
use Rattle.cxx_ast.specs.declared.name.Builtin.TheVariants.{Cancel}
use Rattle.elf_image.specs.Clean.{CleanImage}
use Rattle.cxa_runtime.specs.World as abi
use Rattle.eh_run.specs.Program.{program_of}
use Rattle.region_forms.specs.Form.{Value, call_value, builtin, int_argument, no_arguments, argument_then, evaluate, call}
use Rattle.region_forms.specs.Evaluation.{value_in}
use Rattle.linear_forms.specs.Linear.{LinearOp, plain}
use Rattle.linear_forms.specs.Stub.{compiled}
use Rattle.linear_forms.specs.Activation.{State}
use Rattle.machine_forms.specs.LinearCode.{linear_code}
use Rattle.machine_simulation.specs.Plan.{Plan, shape, slot_kinds}
use Rattle.machine_simulation.specs.Asked.{ValueAsked}
use Rattle.machine_simulation.specs.Matches.{Matches}
use Rattle.machine_simulation.specs.Operations.{ForcedMatched}
use Rattle.machine_simulation.specs.Returns.{closed}
use Rattle.machine_simulation.specs.Steps.{StepAt}
use Rattle.machine_simulation.specs.Objects.{Shows}
use Rattle.machine_raises.specs.Stacks.{IsRunning}
use Rattle.machine_raises.specs.Pads.{PadsArePlain, FiltersAreInts}

-- an operation begins a forced unwind with the number that a value has
abbrev pub Cancels : Value → LinearOp → Type 0
Cancels v o = (o ≡ plain (call (builtin Cancel) (argument_then (int_argument v) no_arguments))) ⊎ (o ≡ plain (evaluate (call_value (builtin Cancel) (argument_then (int_argument v) no_arguments))))

-- the runtime keeps its exceptions, and the number
pub record Cancelled (p : Plan) (i : CleanImage) (st next : State) (w : abi.World) (words : ℕ) (k : ℤ) : Type 0 where
  pub ran : ForcedMatched (program_of i).image (words + 2) w [] (λ u. Matches (closed p next.top.frame.call) next u × (u.exceptions ≡ w.exceptions) × (u.unwinding ≡ Some k))

-- A step that begins a forced unwind, and comes to a pad of a compiled function.
abbrev pub CancelsRun : Type 0
CancelsRun = (i : CleanImage) (p : Plan) (n m : ℕ) (st next : State) (w : abi.World) (o : LinearOp) (v : Value) → Matches p st w → IsRunning p i w.hart → StepAt p st next n o → Cancels v o → ValueAsked p n st.top.frame st.world v → PadsArePlain p →
    FiltersAreInts p → next.top.function ≡ compiled m → Shows st next [] × (k : ℤ) × (value_in (slot_kinds p n) st.top.frame st.world v ≡ Some k) × Cancelled p i st next w (length (linear_code (shape p n) o)) k
