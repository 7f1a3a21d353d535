use Rattle.machine_stubs.proofs.Terminate.{terminate_runs}
use Rattle.machine_stubs.proofs.laws.terminate_runs.Goals as goal

pub returns : goal.returns
returns c = terminate_runs
