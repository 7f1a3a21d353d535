use Rattle.region_exceptions.proofs.Operands.{operands_throw_alike}
use Rattle.region_exceptions.proofs.laws.operands_throw_alike.Goals as goal

pub returns : goal.returns
returns c = operands_throw_alike c.caught_list_follows.ensures
