use Rattle.region_meaning.proofs.Extents.{extents_are_same}
use Rattle.region_meaning.proofs.laws.extents_are_same.Goals as goal

pub returns : goal.returns
returns c = extents_are_same c.caught_list_follows.ensures
