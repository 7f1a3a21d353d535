-- Operations that begin a forced unwind or go on with one.
use Rattle.std.specs.Prelude.{◌≡◌, ◌⊎◌, ℕ, ℤ, slice_get, Some}
use Rattle.cxa_runtime.specs.World as abi
use Rattle.region_forms.specs.Form.{Value}
use Rattle.region_forms.specs.Evaluation.{value_in}
use Rattle.linear_forms.specs.Linear.{LinearOp, resume}
use Rattle.linear_forms.specs.Stub.{compiled}
use Rattle.linear_forms.specs.Activation.{State}
use Rattle.machine_simulation.specs.Plan.{Plan, function, slot_kinds}
use Rattle.machine_simulation.specs.Asked.{ValueAsked}
use Rattle.machine_raises.specs.Cancels.{Cancels}
use Rattle.machine_raises.specs.Forced.{ForcedAsked}

-- an operation begins a forced unwind with a number
pub record BeginsUnwind (p : Plan) (n : ℕ) (st : State) (o : LinearOp) (k : ℤ) : Type 0 where
  pub value : Value
  pub is : Cancels value o
  pub asked : ValueAsked p n st.top.frame st.world value
  pub number : value_in (slot_kinds p n) st.top.frame st.world value ≡ Some k

-- or goes on with the one that is on
pub record GoesOnUnwinding (p : Plan) (n : ℕ) (st : State) (w : abi.World) (o : LinearOp) (k : ℤ) : Type 0 where
  pub slot : ℕ
  pub is : o ≡ resume slot
  pub asked : ForcedAsked p n st w slot k

-- a call is at one of them
pub record AtUnwind (p : Plan) (n : ℕ) (st : State) (w : abi.World) (k : ℤ) : Type 0 where
  pub operation : LinearOp
  pub runs : st.top.function ≡ compiled n
  pub there : slice_get (function p n).ops st.top.place ≡ Some operation
  pub unwinds : BeginsUnwind p n st operation k ⊎ GoesOnUnwinding p n st w operation k
