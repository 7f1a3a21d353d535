use Rattle.region_exceptions.proofs.Exceptions.{all_tries_do_alike}
use Rattle.region_exceptions.proofs.laws.all_tries_do_alike.Goals as goal

pub returns : goal.returns
returns c = all_tries_do_alike c.caught_list_follows.ensures
