use Rattle.region_simulation.proofs.Values.{values_are_meant}
use Rattle.region_simulation.proofs.laws.values_are_meant.Goals as goal

pub returns : goal.returns
returns c = values_are_meant
