use Rattle.rv64_emit.proofs.Inside.{slots_are_inside}
use Rattle.rv64_emit.proofs.laws.slots_are_inside.Goals as goal

pub returns : goal.returns
returns c = slots_are_inside
