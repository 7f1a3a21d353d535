-- What the runtime's own functions are in a whole run: from a state that stands, the next that stands, an end, or what is not defined.
use Rattle.std.specs.Prelude.{◌≡◌, ℕ}
use Rattle.cxa_runtime.specs.World as abi
use Rattle.region_forms.specs.World.{flying}
use Rattle.linear_forms.specs.Activation.{State}
use Rattle.machine_simulation.specs.Plan.{Plan}
use Rattle.stub_landings.specs.Rests.{FreesOnTheWay, LeavesOn}
use Rattle.step_law.specs.Facts.{Facts}
use Rattle.step_law.specs.Standing.{StandsBy}
use Rattle.step_law.specs.Rows.{Run, FollowsIn}

-- a state stands by a plan, behind so many turns
pub record StandsAt (x : Run) (q : Plan) (before : ℕ) (st : State) (w : abi.World) : Type 0 where
  pub facts : Facts x.program x.image x.carrying x.tables
  pub stands : StandsBy x.program x.image x.carrying x.tables q before st w

-- where an exception came out of a destructor that end_catch called: that frees its own object, and the other goes on
abbrev pub FreedFlightsFollow : Type 0
FreedFlightsFollow = (x : Run) (q : Plan) (before e d : ℕ) (st : State) (w : abi.World) → StandsAt x q before st w → FreesOnTheWay q st w → st.top.frame.slots 2 ≡ flying e d → FollowsIn x before st w

-- where call_unexpected has left both handlers, and an exception goes on
abbrev pub PassedFlightsFollow : Type 0
PassedFlightsFollow = (x : Run) (q : Plan) (before e d : ℕ) (st : State) (w : abi.World) → StandsAt x q before st w → LeavesOn q 57 17 st w → st.top.frame.slots 4 ≡ flying e d → FollowsIn x before st w
