use Rattle.checked_units.proofs.Programs.{regions_have_ints}
use Rattle.checked_units.proofs.laws.regions_have_ints.Goals as goal

pub returns : goal.returns
returns c = regions_have_ints
