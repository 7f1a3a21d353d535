use Rattle.machine_simulation.proofs.Fields.{pieces_fit}
use Rattle.machine_simulation.proofs.laws.pieces_fit.Goals as goal

pub returns : goal.returns
returns c = pieces_fit
