use Rattle.region_statements.proofs.Copying.{copy_constructors_run_alike}
use Rattle.region_statements.proofs.laws.copy_constructors_run_alike.Goals as goal

pub returns : goal.returns
returns c = copy_constructors_run_alike
