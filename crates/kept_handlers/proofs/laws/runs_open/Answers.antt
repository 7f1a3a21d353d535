use Rattle.kept_handlers.proofs.Runs.{runs_open}
use Rattle.kept_handlers.proofs.laws.runs_open.Goals as goal

pub returns : goal.returns
returns c = runs_open
