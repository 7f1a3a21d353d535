use Rattle.kept_handlers.proofs.Runs.{first_opens}
use Rattle.kept_handlers.proofs.laws.first_opens.Goals as goal

pub returns : goal.returns
returns c = first_opens
