use Rattle.kept_handlers.proofs.Runs.{runs_with_stopped}
use Rattle.kept_handlers.proofs.laws.runs_with_stopped.Goals as goal

pub returns : goal.returns
returns c = runs_with_stopped
