use Rattle.region_exceptions.proofs.Rethrows.{rethrows_alike}
use Rattle.region_exceptions.proofs.laws.rethrows_alike.Goals as goal

pub returns : goal.returns
returns c = rethrows_alike c.caught_list_follows.ensures
