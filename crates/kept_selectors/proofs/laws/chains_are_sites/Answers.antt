use Rattle.kept_selectors.proofs.Ends.{chains_are_sites}
use Rattle.kept_selectors.proofs.laws.chains_are_sites.Goals as goal

pub returns : goal.returns
returns c = chains_are_sites
