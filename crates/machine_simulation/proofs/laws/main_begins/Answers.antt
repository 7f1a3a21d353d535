use Rattle.machine_simulation.proofs.Beginning.{main_begins}
use Rattle.machine_simulation.proofs.laws.main_begins.Goals as goal

pub returns : goal.returns
returns c = main_begins
