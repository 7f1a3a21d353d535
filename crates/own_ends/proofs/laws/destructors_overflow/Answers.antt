use Rattle.own_ends.proofs.Overflow.{destructors_overflow}
use Rattle.own_ends.proofs.laws.destructors_overflow.Goals as goal

pub returns : goal.returns
returns c = destructors_overflow c.unexpected_ends.ensures c.end_catch_destroys.ensures c.functions_overflow.ensures
