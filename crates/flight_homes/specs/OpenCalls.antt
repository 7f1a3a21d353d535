-- What holds of the open calls in each state of the machine for linear code.
use Rattle.std.specs.Prelude.{◌≡◌, ◌⊎◌, ◌≤◌, true, ◌∷◌}
use Rattle.region_forms.specs.World.{nothing}
use Rattle.linear_forms.specs.Activation.{Code, State, goes_to, depth_of}
use Rattle.linear_forms.specs.Machine.{step}
use Rattle.flight_homes.specs.Nest.{CallsNest, is_terminate, waits_terminate}

-- Each call was made by the one below it; so many were open at once; and terminate runs with a handler exactly where it waits for one. At its
-- own first operation it may have none: then nothing says that it runs, and it never calls.
pub record CallsStand (st : State) : Type 0 where
  pub nest : CallsNest (st.top ∷ st.frames)
  pub deep : depth_of (st.top ∷ st.frames) ≤ st.world.deepest
  pub waits : waits_terminate st.frames ≡ true → st.world.ending ≡ true
  pub ends : st.world.ending ≡ true → waits_terminate (st.top ∷ st.frames) ≡ true
  pub held : is_terminate st.top.function ≡ true → (st.world.ending ≡ true) ⊎ (st.top.frame.slots 0 ≡ nothing)

-- each step keeps that, and never forgets how many calls were open
abbrev pub StepsKeepCalls : Type 0
StepsKeepCalls = (code : Code) (st next : State) → CallsStand st → step code st ≡ goes_to next → CallsStand next × (st.world.deepest ≤ next.world.deepest)
