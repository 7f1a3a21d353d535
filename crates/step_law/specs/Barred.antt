-- Where a forced unwind goes on from a compiled function, or begins there, and comes to a call out of which nothing may come.
use Rattle.std.specs.Prelude.{◌≡◌, ℕ, ℤ, Some}
use Rattle.cxa_runtime.specs.World as abi
use Rattle.region_forms.specs.Form.{Value}
use Rattle.region_forms.specs.World.{unwinding}
use Rattle.linear_forms.specs.Linear.{LinearOp, resume}
use Rattle.linear_forms.specs.Stub.{terminating}
use Rattle.linear_forms.specs.Activation.{State, goes_to}
use Rattle.linear_forms.specs.Machine.{step}
use Rattle.machine_simulation.specs.Plan.{Plan}
use Rattle.machine_raises.specs.Cancels.{Cancels}
use Rattle.step_law.specs.Facts.{code_for}
use Rattle.step_law.specs.Rows.{Run, IsAt, FollowsIn}

-- The terminate handler in effect begins, below the frames that were left, or finds no room.
pub record BarredFollow : Type 0 where
  pub resumed : (x : Run) (q : Plan) (before n s m : ℕ) (z : ℤ) (st next : State) (w : abi.World) → IsAt x q before n (resume s) st w → st.top.frame.slots s ≡ unwinding z → step (code_for x.program) st ≡ goes_to next →
      next.top.function ≡ terminating → st.world.installed.terminate_handler ≡ Some m → FollowsIn x before st w
  pub cancelled : (x : Run) (q : Plan) (before n m : ℕ) (o : LinearOp) (value : Value) (st next : State) (w : abi.World) → IsAt x q before n o st w → Cancels value o → step (code_for x.program) st ≡ goes_to next →
      next.top.function ≡ terminating → st.world.installed.terminate_handler ≡ Some m → FollowsIn x before st w
