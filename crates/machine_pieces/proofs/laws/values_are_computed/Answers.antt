use Rattle.machine_pieces.proofs.Testing.{values_are_computed}
use Rattle.machine_pieces.proofs.laws.values_are_computed.Goals as goal

pub returns : goal.returns
returns c = values_are_computed
