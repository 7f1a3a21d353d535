-- Where a compiled function leaves a handler, and where a destructor that was called there returns.
use Rattle.std.specs.Prelude.{◌≡◌, ℕ, List, [], ◌∷◌, Option, Some, None, if◌then◌else◌}
use Rattle.cxa_runtime.specs.World as abi
use Rattle.region_forms.specs.Caught.{Entry, is_last}
use Rattle.region_forms.specs.Form.{leave}
use Rattle.region_forms.specs.World.{Exception, building, native, foreign, World, exception_at}
use Rattle.linear_forms.specs.Linear.{plain, return}
use Rattle.linear_forms.specs.Stub.{compiled, end_catch}
use Rattle.linear_forms.specs.Activation.{Activation, State}
use Rattle.machine_simulation.specs.Plan.{Plan}
use Rattle.step_law.specs.Rows.{Run, IsAt, FollowsIn}

-- the destructor of an exception's object
abbrev pub destructor_of : Exception → Option ℕ
destructor_of building = None
destructor_of (native t d kept) = d
destructor_of (foreign k token) = None

-- that which is called where the newest handler is left: no other has the exception, and it does not travel again
abbrev pub destructor_due : World → List Entry → Option ℕ
destructor_due v [] = None
destructor_due v (y ∷ ys) = if is_last y then destructor_of (exception_at v y.number) else None

-- where a handler is left, and no destructor is called
abbrev pub LeavesFollow : Type 0
LeavesFollow = (x : Run) (q : Plan) (before n : ℕ) (st : State) (w : abi.World) → IsAt x q before n (plain leave) st w → destructor_due st.world st.world.caught ≡ None → FollowsIn x before st w

-- where one is called, with room for it or none
abbrev pub DestructorsBeginFollow : Type 0
DestructorsBeginFollow = (x : Run) (q : Plan) (before n d : ℕ) (st : State) (w : abi.World) → IsAt x q before n (plain leave) st w → destructor_due st.world st.world.caught ≡ Some d → FollowsIn x before st w

-- where it returns to end_catch, which a compiled function called
abbrev pub DestructorsEndFollow : Type 0
DestructorsEndFollow = (x : Run) (q : Plan) (before n m : ℕ) (r : Option ℕ) (waiting a : Activation) (fs : List Activation) (st : State) (w : abi.World) → IsAt x q before n (return r) st w → st.frames ≡ waiting ∷ a ∷ fs →
    waiting.function ≡ end_catch → a.function ≡ compiled m → FollowsIn x before st w
