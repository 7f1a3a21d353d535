use Rattle.region_simulation.proofs.Assigning.{writes_stand}
use Rattle.region_simulation.proofs.laws.writes_stand.Goals as goal

pub returns : goal.returns
returns c = writes_stand
