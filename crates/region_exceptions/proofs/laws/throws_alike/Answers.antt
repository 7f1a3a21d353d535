use Rattle.region_exceptions.proofs.Throws.{throws_alike}
use Rattle.region_exceptions.proofs.laws.throws_alike.Goals as goal

pub returns : goal.returns
returns c = throws_alike c.caught_list_follows.ensures
