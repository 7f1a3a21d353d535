use Rattle.machine_pieces.proofs.Writing.{places_are_written}
use Rattle.machine_pieces.proofs.laws.places_are_written.Goals as goal

pub returns : goal.returns
returns c = places_are_written
