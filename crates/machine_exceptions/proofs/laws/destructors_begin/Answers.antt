use Rattle.machine_exceptions.proofs.DestructorsBegin.{destructors_begin}
use Rattle.machine_exceptions.proofs.laws.destructors_begin.Goals as goal

pub returns : goal.returns
returns c = destructors_begin c.end_catch_destroys.ensures
