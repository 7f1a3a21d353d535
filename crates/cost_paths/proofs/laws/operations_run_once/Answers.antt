use Rattle.cost_paths.proofs.Paths.{operations_run_once}
use Rattle.cost_paths.proofs.laws.operations_run_once.Goals as goal

pub returns : goal.returns
returns c = operations_run_once
