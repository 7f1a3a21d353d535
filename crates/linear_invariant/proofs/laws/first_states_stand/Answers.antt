use Rattle.linear_invariant.proofs.Steps.{first_states_stand}
use Rattle.linear_invariant.proofs.laws.first_states_stand.Goals as goal

pub returns : goal.returns
returns c = first_states_stand
