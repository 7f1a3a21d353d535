-- Where a forced unwind goes on from a compiled function, or begins there, and the program ends.
use Rattle.std.specs.Prelude.{◌≡◌, ℕ, ℤ, None}
use Rattle.cxa_runtime.specs.World as abi
use Rattle.meaning_forms.specs.Outcome.{End}
use Rattle.region_forms.specs.Form.{Value}
use Rattle.region_forms.specs.World.{unwinding, World}
use Rattle.linear_forms.specs.Linear.{LinearOp, resume}
use Rattle.linear_forms.specs.Stub.{terminating}
use Rattle.linear_forms.specs.Activation.{State, goes_to, finishes, by_program}
use Rattle.linear_forms.specs.Machine.{step}
use Rattle.machine_simulation.specs.Plan.{Plan}
use Rattle.machine_raises.specs.Cancels.{Cancels}
use Rattle.step_law.specs.Facts.{code_for}
use Rattle.step_law.specs.Rows.{Run, IsAt, FollowsIn}

-- It comes to the end of the stack and the program exits, or to a call without a site while terminate runs, and it aborts; so it does where terminate is
-- called there and no handler is in effect.
pub record ForcedEndsFollow : Type 0 where
  pub resumed : (x : Run) (q : Plan) (before n s : ℕ) (z : ℤ) (why : End) (st : State) (v : World) (w : abi.World) → IsAt x q before n (resume s) st w → st.top.frame.slots s ≡ unwinding z →
      step (code_for x.program) st ≡ finishes (by_program why) v → FollowsIn x before st w
  pub cancelled : (x : Run) (q : Plan) (before n : ℕ) (o : LinearOp) (value : Value) (why : End) (st : State) (v : World) (w : abi.World) → IsAt x q before n o st w → Cancels value o →
      step (code_for x.program) st ≡ finishes (by_program why) v → FollowsIn x before st w
  pub resumed_aborts : (x : Run) (q : Plan) (before n s : ℕ) (z : ℤ) (st next : State) (w : abi.World) → IsAt x q before n (resume s) st w → st.top.frame.slots s ≡ unwinding z → step (code_for x.program) st ≡ goes_to next →
      next.top.function ≡ terminating → st.world.installed.terminate_handler ≡ None → FollowsIn x before st w
  pub cancelled_aborts : (x : Run) (q : Plan) (before n : ℕ) (o : LinearOp) (value : Value) (st next : State) (w : abi.World) → IsAt x q before n o st w → Cancels value o → step (code_for x.program) st ≡ goes_to next →
      next.top.function ≡ terminating → st.world.installed.terminate_handler ≡ None → FollowsIn x before st w
