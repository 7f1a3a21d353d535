use Rattle.machine_raises.proofs.Stacks.{stacks_stand}
use Rattle.machine_raises.proofs.laws.stacks_stand.Goals as goal

pub returns : goal.returns
returns c = stacks_stand
