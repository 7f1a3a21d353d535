-- An exception is thrown again that nothing stops, in a whole run.
use Rattle.std.specs.Prelude.{◌≡◌, ℕ, false, List, ◌∷◌, None}
use Rattle.cxa_runtime.specs.World as abi
use Rattle.region_forms.specs.Caught.{Entry}
use Rattle.region_forms.specs.Form.{rethrow}
use Rattle.region_forms.specs.World.{type_at}
use Rattle.linear_forms.specs.Linear.{plain}
use Rattle.linear_forms.specs.Search.{found_above}
use Rattle.linear_forms.specs.Activation.{State}
use Rattle.machine_simulation.specs.Plan.{Plan}
use Rattle.step_law.specs.Facts.{code_for}
use Rattle.step_law.specs.Rows.{Run, IsAt, FollowsIn}

-- where the newest exception that is handled is thrown again, which does not travel already, and none of the open calls stops it: the handler kept with
-- it begins, or that in effect for a foreign one, or there is no room for it, or none is called
abbrev pub RethrowDoomsFollow : Type 0
RethrowDoomsFollow = (x : Run) (q : Plan) (before n : ℕ) (y : Entry) (ys : List Entry) (st : State) (w : abi.World) → IsAt x q before n (plain rethrow) st w → st.world.caught ≡ y ∷ ys → y.again ≡ false →
    found_above (code_for x.program) (type_at st.world y.number) (st.top ∷ st.frames) ≡ None → FollowsIn x before st w
