-- Where call_unexpected leaves its handlers, and where a destructor that was called there returns.
use Rattle.std.specs.Prelude.{◌≡◌, ◌⊎◌, ℕ, pos, List, ◌∷◌, Option, Some, None}
use Rattle.cxa_runtime.specs.World as abi
use Rattle.linear_forms.specs.Linear.{return}
use Rattle.linear_forms.specs.Stub.{end_catch, call_unexpected}
use Rattle.linear_forms.specs.Activation.{Activation, State}
use Rattle.machine_simulation.specs.Plan.{Plan}
use Rattle.stub_landings.specs.Rests.{ChecksThrown, LeavesBoth, LeavesOn}
use Rattle.step_law.specs.Leaves.{destructor_due}
use Rattle.step_law.specs.Own.{StandsAt}
use Rattle.step_law.specs.Rows.{Run, IsAt, FollowsIn}

-- It is at its first or its second `leave`; or a forced unwind came out of the unexpected handler, which leads to the second.
abbrev pub IsLeaving : Plan → State → abi.World → Type 0
IsLeaving q st w = LeavesBoth q st w ⊎ LeavesOn q 55 16 st w ⊎ ((h : ChecksThrown q st w) × (h.filter ≡ pos 0))

-- no destructor is called
abbrev pub OwnLeavesFollow : Type 0
OwnLeavesFollow = (x : Run) (q : Plan) (before : ℕ) (st : State) (w : abi.World) → StandsAt x q before st w → IsLeaving q st w → destructor_due st.world st.world.caught ≡ None → FollowsIn x before st w

-- one is called, with room for it or none
abbrev pub OwnDestructorsBeginFollow : Type 0
OwnDestructorsBeginFollow = (x : Run) (q : Plan) (before d : ℕ) (st : State) (w : abi.World) → StandsAt x q before st w → IsLeaving q st w → destructor_due st.world st.world.caught ≡ Some d → FollowsIn x before st w

-- it returns to end_catch, which call_unexpected called
abbrev pub OwnDestructorsEndFollow : Type 0
OwnDestructorsEndFollow = (x : Run) (q : Plan) (before n : ℕ) (r : Option ℕ) (waiting a : Activation) (fs : List Activation) (st : State) (w : abi.World) → IsAt x q before n (return r) st w → st.frames ≡ waiting ∷ a ∷ fs →
    waiting.function ≡ end_catch → a.function ≡ call_unexpected → FollowsIn x before st w
