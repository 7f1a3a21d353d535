use Rattle.region_exceptions.proofs.Doomed.{doomed_alike}
use Rattle.region_exceptions.proofs.laws.doomed_alike.Goals as goal

pub returns : goal.returns
returns c = doomed_alike
