use Rattle.region_statements.proofs.Choosing.{does_branch}
use Rattle.region_statements.proofs.laws.branches_decide.Goals as goal

pub returns : goal.returns
returns c = does_branch
