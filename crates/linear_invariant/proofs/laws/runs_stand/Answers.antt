use Rattle.linear_invariant.proofs.Steps.{runs_stand}
use Rattle.linear_invariant.proofs.laws.runs_stand.Goals as goal

pub returns : goal.returns
returns c = runs_stand
