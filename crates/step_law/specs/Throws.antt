-- An exception that a compiled function throws, or throws again.
use Rattle.std.specs.Prelude.{ℕ, Option}
use Rattle.cxa_runtime.specs.World as abi
use Rattle.region_forms.specs.Form.{throw, rethrow}
use Rattle.linear_forms.specs.Linear.{plain}
use Rattle.linear_forms.specs.Activation.{State}
use Rattle.machine_simulation.specs.Plan.{Plan}
use Rattle.step_law.specs.Rows.{Run, IsAt, FollowsIn}

-- at a throw: the exception comes to a pad of a compiled function, or of one of the runtime's own; or nothing stops it
abbrev pub ThrowsFollow : Type 0
ThrowsFollow = (x : Run) (q : Plan) (before n s t : ℕ) (d : Option ℕ) (st : State) (w : abi.World) → IsAt x q before n (plain (throw s t d)) st w → FollowsIn x before st w

-- where the newest exception that is handled is thrown again: so it is; where none is handled, or it travels already, the program terminates
abbrev pub RethrowsFollow : Type 0
RethrowsFollow = (x : Run) (q : Plan) (before n : ℕ) (st : State) (w : abi.World) → IsAt x q before n (plain rethrow) st w → FollowsIn x before st w
