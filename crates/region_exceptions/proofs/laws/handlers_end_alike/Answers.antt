use Rattle.region_exceptions.proofs.LettingGo.{handlers_end_alike}
use Rattle.region_exceptions.proofs.laws.handlers_end_alike.Goals as goal

pub returns : goal.returns
returns c = handlers_end_alike c.caught_list_follows.ensures
