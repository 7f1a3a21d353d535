use Rattle.kept_handlers.proofs.Runs.{returns_to_stopped}
use Rattle.kept_handlers.proofs.laws.returns_to_stopped.Goals as goal

pub returns : goal.returns
returns c = returns_to_stopped
