use Rattle.region_statements.proofs.Members.{constructors_run_alike}
use Rattle.region_statements.proofs.laws.constructors_run_alike.Goals as goal

pub returns : goal.returns
returns c = constructors_run_alike
