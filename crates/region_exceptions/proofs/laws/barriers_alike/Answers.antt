use Rattle.region_exceptions.proofs.Barriers.{barriers_alike}
use Rattle.region_exceptions.proofs.laws.barriers_alike.Goals as goal

pub returns : goal.returns
returns c = barriers_alike
