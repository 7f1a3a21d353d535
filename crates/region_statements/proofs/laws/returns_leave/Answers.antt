use Rattle.region_statements.proofs.Ending.{does_return}
use Rattle.region_statements.proofs.laws.returns_leave.Goals as goal

pub returns : goal.returns
returns c = does_return
