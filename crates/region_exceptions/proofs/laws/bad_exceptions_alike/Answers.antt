use Rattle.region_exceptions.proofs.BadExceptions.{bad_exceptions_alike}
use Rattle.region_exceptions.proofs.laws.bad_exceptions_alike.Goals as goal

pub returns : goal.returns
returns c = bad_exceptions_alike c.caught_list_follows.ensures
