use Rattle.region_exceptions.proofs.Constructing.{copies_alike}
use Rattle.region_exceptions.proofs.laws.copies_alike.Goals as goal

pub returns : goal.returns
returns c = copies_alike
