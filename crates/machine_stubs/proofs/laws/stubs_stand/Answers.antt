use Rattle.machine_stubs.proofs.Placed.{stubs_stand}
use Rattle.machine_stubs.proofs.laws.stubs_stand.Goals as goal

pub returns : goal.returns
returns c = stubs_stand
