use Rattle.region_exceptions.proofs.Extents.{extents_do_alike}
use Rattle.region_exceptions.proofs.laws.extents_do_alike.Goals as goal

pub returns : goal.returns
returns c = extents_do_alike c.caught_list_follows.ensures
