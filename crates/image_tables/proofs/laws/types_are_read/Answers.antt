use Rattle.image_tables.proofs.TypesRead.{types_are_read}
use Rattle.image_tables.proofs.laws.types_are_read.Goals as goal

pub returns : goal.returns
returns c = types_are_read
