use Rattle.linear_simulation.proofs.Programs.{programs_run}
use Rattle.linear_simulation.proofs.laws.programs_run.Goals as goal

pub returns : goal.returns
returns c = programs_run
