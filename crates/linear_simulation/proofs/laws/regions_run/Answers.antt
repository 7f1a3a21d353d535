use Rattle.linear_simulation.proofs.Regions.{code_runs_watched}
use Rattle.linear_simulation.proofs.laws.regions_run.Goals as goal

pub returns : goal.returns
returns c = code_runs_watched
