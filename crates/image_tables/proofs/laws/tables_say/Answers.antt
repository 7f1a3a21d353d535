use Rattle.image_tables.proofs.Told.{tables_say}
use Rattle.image_tables.proofs.laws.tables_say.Goals as goal

pub returns : goal.returns
returns c = tables_say
