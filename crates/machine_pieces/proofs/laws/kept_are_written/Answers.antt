use Rattle.machine_pieces.proofs.Written.{kept_are_written}
use Rattle.machine_pieces.proofs.laws.kept_are_written.Goals as goal

pub returns : goal.returns
returns c = kept_are_written
