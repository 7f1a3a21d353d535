use Rattle.machine_pieces.proofs.Outward.{registers_are_saved}
use Rattle.machine_pieces.proofs.laws.registers_are_saved.Goals as goal

pub returns : goal.returns
returns c = registers_are_saved
