use Rattle.region_simulation.proofs.First.{first_stands}
use Rattle.region_simulation.proofs.laws.first_stands.Goals as goal

pub returns : goal.returns
returns c = first_stands
