use Rattle.machine_exceptions.proofs.Filters.{filters_run}
use Rattle.machine_exceptions.proofs.laws.filters_run.Goals as goal

pub returns : goal.returns
returns c = filters_run
