-- Where a forced unwind goes on from one of the runtime's own functions, and comes to a landing pad.
use Rattle.std.specs.Prelude.{◌≡◌, ℕ, ℤ}
use Rattle.cxa_runtime.specs.World as abi
use Rattle.region_forms.specs.World.{unwinding}
use Rattle.linear_forms.specs.Activation.{State, goes_to}
use Rattle.linear_forms.specs.Machine.{step}
use Rattle.machine_simulation.specs.Plan.{Plan}
use Rattle.stub_landings.specs.Landings.{GoesOn}
use Rattle.stub_landings.specs.Rests.{FreesOnTheWay, LeavesOn}
use Rattle.own_ends.specs.Resumes.{freed_on_the_way}
use Rattle.step_law.specs.Facts.{code_for}
use Rattle.step_law.specs.Own.{StandsAt}
use Rattle.step_law.specs.Rows.{Run, FollowsIn}

-- where call_unexpected has left both handlers
abbrev pub PassedUnwindsFollow : Type 0
PassedUnwindsFollow = (x : Run) (q : Plan) (before : ℕ) (z : ℤ) (st next : State) (w : abi.World) → StandsAt x q before st w → LeavesOn q 57 17 st w → st.top.frame.slots 4 ≡ unwinding z → step (code_for x.program) st ≡ goes_to next → GoesOn next →
    FollowsIn x before st w

-- where it came out of a destructor that end_catch called: that frees its own object, and the unwind goes on
abbrev pub FreedUnwindsFollow : Type 0
FreedUnwindsFollow = (x : Run) (q : Plan) (before : ℕ) (z : ℤ) (st next : State) (w : abi.World) → StandsAt x q before st w → FreesOnTheWay q st w → st.top.frame.slots 2 ≡ unwinding z →
    step (code_for x.program) (freed_on_the_way st) ≡ goes_to next → GoesOn next → FollowsIn x before st w
