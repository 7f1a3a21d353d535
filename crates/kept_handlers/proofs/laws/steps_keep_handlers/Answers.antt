use Rattle.kept_handlers.proofs.Runs.{steps_keep_handlers}
use Rattle.kept_handlers.proofs.laws.steps_keep_handlers.Goals as goal

pub returns : goal.returns
returns c = steps_keep_handlers
