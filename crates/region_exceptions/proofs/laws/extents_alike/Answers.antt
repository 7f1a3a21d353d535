use Rattle.region_exceptions.proofs.Extents.{extents_alike}
use Rattle.region_exceptions.proofs.laws.extents_alike.Goals as goal

pub returns : goal.returns
returns c = extents_alike c.caught_list_follows.ensures
