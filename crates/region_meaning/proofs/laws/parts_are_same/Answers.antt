use Rattle.region_meaning.proofs.Scopes.{parts_are_same}
use Rattle.region_meaning.proofs.laws.parts_are_same.Goals as goal

pub returns : goal.returns
returns c = parts_are_same
