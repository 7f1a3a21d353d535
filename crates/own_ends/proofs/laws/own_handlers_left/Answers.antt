use Rattle.own_ends.proofs.Left.{own_handlers_left}
use Rattle.own_ends.proofs.laws.own_handlers_left.Goals as goal

pub returns : goal.returns
returns c = own_handlers_left c.unexpected_ends.ensures c.end_catch_runs.ensures c.calls_are_made.ensures c.end_catch_comes_back.ensures c.end_catch_frees.ensures
