-- What is counted of a run here is counted where its turns are.
use Rattle.std.specs.Prelude.{ℕ, ◌≤◌}
use Rattle.linear_forms.specs.Activation.{Code, State}
use Rattle.linear_forms.specs.Pace.{counted as counted_steps}
use Rattle.cost_turns.specs.Once.{counted}

-- No more calls begin and no more loops turn back than there are steps that count as such. So a run has no more of them than turns of its own.
abbrev pub AllAreCounted : Type 0
AllAreCounted = (code : Code) (n : ℕ) (st : State) → counted code n st ≤ counted_steps code n st
