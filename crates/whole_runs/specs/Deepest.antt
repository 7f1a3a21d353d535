-- How many calls were open at most.
use Rattle.std.specs.Prelude.{ℕ, ◌≤◌}
use Rattle.linear_forms.specs.Activation.{Code, State, goes_to}
use Rattle.linear_forms.specs.Pace.{Leads}

-- no step of linear code takes that back
abbrev pub DeepestGrows : Type 0
DeepestGrows = (code : Code) (n : ℕ) (st last : State) → Leads code n st (goes_to last) → st.world.deepest ≤ last.world.deepest
