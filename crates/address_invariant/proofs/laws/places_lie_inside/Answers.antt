use Rattle.address_invariant.proofs.Places.{places_lie}
use Rattle.address_invariant.proofs.laws.places_lie_inside.Goals as goal

pub returns : goal.returns
returns c = places_lie
