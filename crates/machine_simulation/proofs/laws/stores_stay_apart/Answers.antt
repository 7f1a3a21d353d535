use Rattle.machine_simulation.proofs.Holding.{stores_stay_apart}
use Rattle.machine_simulation.proofs.laws.stores_stay_apart.Goals as goal

pub returns : goal.returns
returns c = stores_stay_apart
