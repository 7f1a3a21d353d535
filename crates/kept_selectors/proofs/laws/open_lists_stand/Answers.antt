use Rattle.kept_selectors.proofs.Ends.{open_lists_stand}
use Rattle.kept_selectors.proofs.laws.open_lists_stand.Goals as goal

pub returns : goal.returns
returns c = open_lists_stand
