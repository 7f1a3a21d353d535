use Rattle.region_exceptions.proofs.Entering.{enters_alike}
use Rattle.region_exceptions.proofs.laws.enters_alike.Goals as goal

pub returns : goal.returns
returns c = enters_alike c.caught_list_follows.ensures
