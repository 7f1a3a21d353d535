-- The program terminates, in a whole run.
use Rattle.std.specs.Prelude.{◌≡◌, ℕ, ◌^◌, ◌<◌, true, false, Some}
use Rattle.cxa_runtime.specs.World as abi
use Rattle.region_forms.specs.Form.{enter}
use Rattle.region_forms.specs.World.{exception_in_slot}
use Rattle.linear_forms.specs.Linear.{LinearOp, plain}
use Rattle.linear_forms.specs.Activation.{State}
use Rattle.machine_simulation.specs.Plan.{Plan}
use Rattle.machine_exceptions.specs.Enters.{is_crowded}
use Rattle.machine_exceptions.specs.Terminates.{TerminatesAtOnce}
use Rattle.step_law.specs.Rows.{Run, IsAt, FollowsIn}

-- at an operation that terminates at once, where a handler is in effect and terminate does not run yet: there is room for the handler, or none
abbrev pub TerminatesFollow : Type 0
TerminatesFollow = (x : Run) (q : Plan) (before n m : ℕ) (o : LinearOp) (st : State) (w : abi.World) → IsAt x q before n o st w → TerminatesAtOnce st.world o → st.world.ending ≡ false →
    st.world.installed.terminate_handler ≡ Some m → FollowsIn x before st w

-- where a foreign exception is entered while another is handled, which terminates, within 2^40 turns, with a handler in effect or without one
abbrev pub CrowdsFollow : Type 0
CrowdsFollow = (x : Run) (q : Plan) (before n s : ℕ) (st : State) (w : abi.World) → IsAt x q before n (plain (enter s)) st w → before < 2 ^ 40 → is_crowded st.world (exception_in_slot st.top.frame s) ≡ true → FollowsIn x before st w
