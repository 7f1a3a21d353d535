use Rattle.linear_simulation.proofs.Fronts.{ends_are_meant}
use Rattle.linear_simulation.proofs.laws.ends_are_meant.Goals as goal

pub returns : goal.returns
returns c = ends_are_meant
