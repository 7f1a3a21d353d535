use Rattle.image_tables.proofs.Told.{start_passes}
use Rattle.image_tables.proofs.laws.start_passes.Goals as goal

pub returns : goal.returns
returns c = start_passes
