-- A call of a compiled function returns to one that waits.
use Rattle.std.specs.Prelude.{◌≡◌, ℕ, ◌+◌, List, [], ◌∷◌, length, slice_get, Option, Some, None}
use Rattle.cxa_runtime.specs.World as abi
use Rattle.cxa_runtime.specs.Raising.{Image}
use Rattle.region_forms.specs.Form.{in_slot, Place}
use Rattle.region_forms.specs.World.{Frame}
use Rattle.linear_forms.specs.Linear.{LinearOp, return}
use Rattle.linear_forms.specs.Stub.{compiled}
use Rattle.linear_forms.specs.Activation.{Activation, State, goes_to}
use Rattle.linear_forms.specs.Machine.{step}
use Rattle.linear_forms.specs.UnitRun.{code_of}
use Rattle.machine_forms.specs.LinearCode.{linear_code}
use Rattle.machine_simulation.specs.Plan.{Plan, function, shape, narrowed}
use Rattle.machine_simulation.specs.Extents.{newer}
use Rattle.machine_simulation.specs.Calls.{wanted, stored_behind}
use Rattle.machine_simulation.specs.Matches.{Matches}
use Rattle.machine_simulation.specs.Operations.{PlaceFits, PlaceStands, Matched}
use Rattle.machine_simulation.specs.Asked.{WantedAsked}

-- slots of calls newer than one are no longer live
abbrev pub closed : Plan → ℕ → Plan
closed p c = narrowed p (newer c)

-- the slot of a result is one of the frame
abbrev pub ResultStands : Plan → ℕ → Frame → Option ℕ → Type 0
ResultStands p n frame None = Unit {0}
ResultStands p n frame (Some s) = PlaceFits p n frame (record { root = in_slot s; offset = 0 })

-- an int may be written where the value of a call is wanted
abbrev pub WantedStands : Plan → ℕ → Frame → Option Place → Type 0
WantedStands p n frame None = Unit {0}
WantedStands p n frame (Some q) = PlaceStands p n frame q

-- A return of a call of one compiled function to one of another is matched by at most as many turns as the return and the store of its
-- value have words. What follows in the caller stands behind them, and nothing of the call that is over is live.
abbrev pub ReturnsRun : Type 0
ReturnsRun = (image : Image) (p : Plan) (n m : ℕ) (st next : State) (w : abi.World) (a : Activation) (fs : List Activation) (r : Option ℕ) (o : LinearOp) → Matches p st w → st.top.function ≡ compiled n →
    slice_get (function p n).ops st.top.place ≡ Some (return r) → st.frames ≡ a ∷ fs → a.function ≡ compiled m → slice_get (function p m).ops a.place ≡ Some o →
    ResultStands p n st.top.frame r → WantedAsked (closed p a.frame.call) m a.frame (wanted o) → step (code_of p.unit) st ≡ goes_to next →
    Matched image (length (linear_code (shape p n) (return r)) + length (stored_behind (shape p m) o)) w [] (λ v. Matches (closed p a.frame.call) next v)
