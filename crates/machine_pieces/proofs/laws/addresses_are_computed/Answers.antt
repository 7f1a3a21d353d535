use Rattle.machine_pieces.proofs.Addressing.{addresses_are_computed}
use Rattle.machine_pieces.proofs.laws.addresses_are_computed.Goals as goal

pub returns : goal.returns
returns c = addresses_are_computed
