use Rattle.machine_simulation.proofs.Units.{units_stand}
use Rattle.machine_simulation.proofs.laws.units_stand.Goals as goal

pub returns : goal.returns
returns c = units_stand c.stubs_stand.ensures
