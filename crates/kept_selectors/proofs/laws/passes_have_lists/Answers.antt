use Rattle.kept_selectors.proofs.Ends.{passes_have_lists}
use Rattle.kept_selectors.proofs.laws.passes_have_lists.Goals as goal

pub returns : goal.returns
returns c = passes_have_lists
