-- A jump on a filter, in a whole run.
use Rattle.std.specs.Prelude.{ℕ, ℤ}
use Rattle.cxa_runtime.specs.World as abi
use Rattle.linear_forms.specs.Linear.{jump_filter}
use Rattle.linear_forms.specs.Activation.{State}
use Rattle.machine_simulation.specs.Plan.{Plan}
use Rattle.step_law.specs.Rows.{Run, IsAt, FollowsIn}

-- at a jump on a filter
abbrev pub FiltersFollow : Type 0
FiltersFollow = (x : Run) (q : Plan) (before n s l : ℕ) (filter : ℤ) (st : State) (w : abi.World) → IsAt x q before n (jump_filter s filter l) st w → FollowsIn x before st w
