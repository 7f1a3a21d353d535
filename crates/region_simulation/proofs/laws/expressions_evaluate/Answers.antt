use Rattle.region_simulation.proofs.Standard.{expressions_evaluate}
use Rattle.region_simulation.proofs.laws.expressions_evaluate.Goals as goal

pub returns : goal.returns
returns c = expressions_evaluate
