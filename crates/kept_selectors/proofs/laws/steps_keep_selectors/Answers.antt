use Rattle.kept_selectors.proofs.Stubs.{steps_keep_selectors}
use Rattle.kept_selectors.proofs.laws.steps_keep_selectors.Goals as goal

pub returns : goal.returns
returns c = steps_keep_selectors
