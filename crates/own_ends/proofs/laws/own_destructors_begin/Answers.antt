use Rattle.own_ends.proofs.Beginning.{own_destructors_begin}
use Rattle.own_ends.proofs.laws.own_destructors_begin.Goals as goal

pub returns : goal.returns
returns c = own_destructors_begin c.unexpected_ends.ensures c.end_catch_destroys.ensures
