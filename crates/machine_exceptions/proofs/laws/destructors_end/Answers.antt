use Rattle.machine_exceptions.proofs.DestructorsEnd.{destructors_end}
use Rattle.machine_exceptions.proofs.laws.destructors_end.Goals as goal

pub returns : goal.returns
returns c = destructors_end c.end_catch_destroys.ensures
