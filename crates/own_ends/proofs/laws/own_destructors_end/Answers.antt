use Rattle.own_ends.proofs.Ending.{own_destructors_end}
use Rattle.own_ends.proofs.laws.own_destructors_end.Goals as goal

pub returns : goal.returns
returns c = own_destructors_end c.end_catch_destroys.ensures
