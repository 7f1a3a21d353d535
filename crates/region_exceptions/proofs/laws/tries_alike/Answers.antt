use Rattle.region_exceptions.proofs.Tries.{tries_alike}
use Rattle.region_exceptions.proofs.laws.tries_alike.Goals as goal

pub returns : goal.returns
returns c = tries_alike
