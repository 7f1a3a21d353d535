use Rattle.region_meaning.proofs.Destructors.{empty_destructors_are_same}
use Rattle.region_meaning.proofs.laws.empty_destructors_are_same.Goals as goal

pub returns : goal.returns
returns c = empty_destructors_are_same
