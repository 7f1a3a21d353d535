use Rattle.region_exceptions.proofs.Raises.{raises_alike}
use Rattle.region_exceptions.proofs.laws.raises_alike.Goals as goal

pub returns : goal.returns
returns c = raises_alike c.caught_list_follows.ensures
