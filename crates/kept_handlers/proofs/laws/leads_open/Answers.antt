use Rattle.kept_handlers.proofs.Runs.{leads_open}
use Rattle.kept_handlers.proofs.laws.leads_open.Goals as goal

pub returns : goal.returns
returns c = leads_open
