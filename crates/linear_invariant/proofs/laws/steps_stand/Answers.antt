use Rattle.linear_invariant.proofs.Steps.{steps_stand}
use Rattle.linear_invariant.proofs.laws.steps_stand.Goals as goal

pub returns : goal.returns
returns c = steps_stand
