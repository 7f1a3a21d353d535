use Rattle.region_exceptions.proofs.Exceptions.{all_throws_do_alike}
use Rattle.region_exceptions.proofs.laws.all_throws_do_alike.Goals as goal

pub returns : goal.returns
returns c = all_throws_do_alike c.caught_list_follows.ensures
