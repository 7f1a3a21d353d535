use Rattle.address_bounds.proofs.Programs.{regions_reach_inside}
use Rattle.address_bounds.proofs.laws.regions_reach_inside.Goals as goal

pub returns : goal.returns
returns c = regions_reach_inside
