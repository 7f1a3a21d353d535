use Rattle.region_statements.proofs.Members.{destructors_run_alike}
use Rattle.region_statements.proofs.laws.destructors_run_alike.Goals as goal

pub returns : goal.returns
returns c = destructors_run_alike
