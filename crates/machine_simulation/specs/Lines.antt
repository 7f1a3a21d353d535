-- A line is written.
use Rattle.std.specs.Prelude.{◌≡◌, ◌⊎◌, ℕ, ℤ, ◌++◌, List, [], ◌∷◌, length, slice_get, Some}
use Rattle.cxx_ast.specs.declared.name.Builtin.TheVariants.{WriteInt}
use Rattle.run_items.specs.declared.item.Item.{Item}
use Rattle.run_items.specs.declared.item.Item.TheVariants.{Line}
use Rattle.cxa_runtime.specs.World as abi
use Rattle.cxa_runtime.specs.Raising.{Image}
use Rattle.region_forms.specs.Form.{Value, call_value, builtin, int_argument, no_arguments, argument_then, evaluate, call}
use Rattle.region_forms.specs.Evaluation.{value_in}
use Rattle.linear_forms.specs.Linear.{LinearOp, plain}
use Rattle.linear_forms.specs.Stub.{compiled}
use Rattle.linear_forms.specs.Activation.{State, goes_to}
use Rattle.linear_forms.specs.Machine.{step}
use Rattle.linear_forms.specs.UnitRun.{code_of}
use Rattle.machine_forms.specs.LinearCode.{linear_code}
use Rattle.machine_simulation.specs.Plan.{Plan, function, shape, slot_kinds}
use Rattle.machine_simulation.specs.Matches.{Matches}
use Rattle.machine_simulation.specs.Operations.{Matched}
use Rattle.machine_simulation.specs.Asked.{ValueAsked}

-- an operation writes the int of a value
abbrev pub Writes : Value → LinearOp → Type 0
Writes v o = (o ≡ plain (call (builtin WriteInt) (argument_then (int_argument v) no_arguments))) ⊎ (o ≡ plain (evaluate (call_value (builtin WriteInt) (argument_then (int_argument v) no_arguments))))

-- A step that writes a line is matched by at most as many turns as the operation has words, which show just that line: it is the one item
-- that the machine for linear code has more behind the step.
pub record LineIs (p : Plan) (n : ℕ) (v : Value) (st next : State) (items : List Item) : Type 0 where
  pub value : ℤ
  pub is : value_in (slot_kinds p n) st.top.frame st.world v ≡ Some value
  pub shown : items ≡ Line value ∷ []
  pub more : next.world.items ≡ st.world.items ++ items

abbrev pub LinesRun : Type 0
LinesRun = (image : Image) (p : Plan) (n : ℕ) (st next : State) (w : abi.World) (o : LinearOp) (v : Value) → Matches p st w → st.top.function ≡ compiled n → slice_get (function p n).ops st.top.place ≡ Some o →
    Writes v o → ValueAsked p n st.top.frame st.world v → step (code_of p.unit) st ≡ goes_to next →
    (items : List Item) × LineIs p n v st next items × Matched image (length (linear_code (shape p n) o)) w items (λ u. Matches p next u)
