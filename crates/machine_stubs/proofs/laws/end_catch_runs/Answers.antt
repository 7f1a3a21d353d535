use Rattle.machine_stubs.proofs.EndCatch.{end_catch_runs}
use Rattle.machine_stubs.proofs.laws.end_catch_runs.Goals as goal

pub returns : goal.returns
returns c = end_catch_runs
