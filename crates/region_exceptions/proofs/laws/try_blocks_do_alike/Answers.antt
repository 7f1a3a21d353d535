use Rattle.region_exceptions.proofs.Clauses.{try_blocks_do_alike}
use Rattle.region_exceptions.proofs.laws.try_blocks_do_alike.Goals as goal

pub returns : goal.returns
returns c = try_blocks_do_alike c.caught_list_follows.ensures
