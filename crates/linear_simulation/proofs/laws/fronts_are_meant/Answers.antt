use Rattle.linear_simulation.proofs.Fronts.{fronts_are_meant}
use Rattle.linear_simulation.proofs.laws.fronts_are_meant.Goals as goal

pub returns : goal.returns
returns c = fronts_are_meant
