use Rattle.checked_units.proofs.Programs.{regions_hold_few}
use Rattle.checked_units.proofs.laws.regions_hold_few.Goals as goal

pub returns : goal.returns
returns c = regions_hold_few
