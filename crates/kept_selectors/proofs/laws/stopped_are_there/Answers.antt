use Rattle.kept_selectors.proofs.Targets.{stopped_are_there}
use Rattle.kept_selectors.proofs.laws.stopped_are_there.Goals as goal

pub returns : goal.returns
returns c = stopped_are_there
