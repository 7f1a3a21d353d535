use Rattle.region_exceptions.proofs.Ends.{terminates_alike}
use Rattle.region_exceptions.proofs.laws.terminates_alike.Goals as goal

pub returns : goal.returns
returns c = terminates_alike
