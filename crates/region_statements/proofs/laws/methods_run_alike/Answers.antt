use Rattle.region_statements.proofs.Functions.{methods_run_alike}
use Rattle.region_statements.proofs.laws.methods_run_alike.Goals as goal

pub returns : goal.returns
returns c = methods_run_alike
