-- An exception is thrown that nothing stops, in a whole run.
use Rattle.std.specs.Prelude.{◌≡◌, ℕ, ◌∷◌, Option, Some, None}
use Rattle.cxa_runtime.specs.World as abi
use Rattle.region_forms.specs.Form.{throw}
use Rattle.linear_forms.specs.Linear.{plain}
use Rattle.linear_forms.specs.Search.{found_above}
use Rattle.linear_forms.specs.Activation.{State}
use Rattle.machine_simulation.specs.Plan.{Plan}
use Rattle.step_law.specs.Facts.{code_for}
use Rattle.step_law.specs.Rows.{Run, IsAt, FollowsIn}

-- at a throw of an exception of a type that none of the open calls stops: a terminate handler begins, or there is no room for it, or none is called
abbrev pub DoomsFollow : Type 0
DoomsFollow = (x : Run) (q : Plan) (before n s t : ℕ) (d : Option ℕ) (st : State) (w : abi.World) → IsAt x q before n (plain (throw s t d)) st w →
    found_above (code_for x.program) (Some t) (st.top ∷ st.frames) ≡ None → FollowsIn x before st w
