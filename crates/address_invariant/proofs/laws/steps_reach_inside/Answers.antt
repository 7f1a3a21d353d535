use Rattle.address_invariant.proofs.Steps.{steps_reach}
use Rattle.address_invariant.proofs.laws.steps_reach_inside.Goals as goal

pub returns : goal.returns
returns c = steps_reach
