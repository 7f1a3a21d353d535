use Rattle.region_exceptions.proofs.Clauses.{handlers_catch_alike}
use Rattle.region_exceptions.proofs.laws.handlers_catch_alike.Goals as goal

pub returns : goal.returns
returns c = handlers_catch_alike c.caught_list_follows.ensures
