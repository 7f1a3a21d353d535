-- Where a forced unwind goes on from a compiled function, or begins there, and comes to a landing pad.
use Rattle.std.specs.Prelude.{◌≡◌, ℕ, ℤ}
use Rattle.cxa_runtime.specs.World as abi
use Rattle.region_forms.specs.Form.{Value}
use Rattle.region_forms.specs.World.{unwinding}
use Rattle.linear_forms.specs.Linear.{LinearOp, resume}
use Rattle.linear_forms.specs.Activation.{State, goes_to}
use Rattle.linear_forms.specs.Machine.{step}
use Rattle.machine_simulation.specs.Plan.{Plan}
use Rattle.machine_raises.specs.Cancels.{Cancels}
use Rattle.stub_landings.specs.Landings.{GoesOn}
use Rattle.step_law.specs.Facts.{code_for}
use Rattle.step_law.specs.Rows.{Run, IsAt, FollowsIn}

-- behind a cleanup
abbrev pub ForcedFollow : Type 0
ForcedFollow = (x : Run) (q : Plan) (before n s : ℕ) (z : ℤ) (st next : State) (w : abi.World) → IsAt x q before n (resume s) st w → st.top.frame.slots s ≡ unwinding z → step (code_for x.program) st ≡ goes_to next → GoesOn next →
    FollowsIn x before st w

-- at an operation that begins one
abbrev pub CancelsFollow : Type 0
CancelsFollow = (x : Run) (q : Plan) (before n : ℕ) (o : LinearOp) (v : Value) (st next : State) (w : abi.World) → IsAt x q before n o st w → Cancels v o → step (code_for x.program) st ≡ goes_to next → GoesOn next →
    FollowsIn x before st w
