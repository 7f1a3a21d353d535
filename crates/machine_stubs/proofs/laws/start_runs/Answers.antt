use Rattle.machine_stubs.proofs.Start.{start_runs}
use Rattle.machine_stubs.proofs.laws.start_runs.Goals as goal

pub returns : goal.returns
returns c = start_runs
