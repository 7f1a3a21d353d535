use Rattle.machine_pieces.proofs.Storing.{stores_are_read}
use Rattle.machine_pieces.proofs.laws.stores_are_read.Goals as goal

pub returns : goal.returns
returns c = stores_are_read
