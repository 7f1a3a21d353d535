use Rattle.region_meaning.proofs.Scopes.{object_scopes_are_same}
use Rattle.region_meaning.proofs.laws.object_scopes_are_same.Goals as goal

pub returns : goal.returns
returns c = object_scopes_are_same
