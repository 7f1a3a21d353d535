use Rattle.kept_selectors.proofs.Ends.{first_selectors}
use Rattle.kept_selectors.proofs.laws.first_selectors.Goals as goal

pub returns : goal.returns
returns c = first_selectors
