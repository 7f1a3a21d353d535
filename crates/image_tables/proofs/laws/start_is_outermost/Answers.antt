use Rattle.image_tables.proofs.Framed.{start_is_outermost}
use Rattle.image_tables.proofs.laws.start_is_outermost.Goals as goal

pub returns : goal.returns
returns c = start_is_outermost
