use Rattle.region_statements.proofs.Functions.{functions_run_alike}
use Rattle.region_statements.proofs.laws.functions_run_alike.Goals as goal

pub returns : goal.returns
returns c = functions_run_alike
