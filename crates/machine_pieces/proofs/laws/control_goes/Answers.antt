use Rattle.machine_pieces.proofs.Framing.{control_goes}
use Rattle.machine_pieces.proofs.laws.control_goes.Goals as goal

pub returns : goal.returns
returns c = control_goes
