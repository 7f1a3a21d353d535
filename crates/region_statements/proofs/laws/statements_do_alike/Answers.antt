use Rattle.region_statements.proofs.Statements.{statements_do_alike}
use Rattle.region_statements.proofs.laws.statements_do_alike.Goals as goal

pub returns : goal.returns
returns c = statements_do_alike
