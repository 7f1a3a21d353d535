use Rattle.own_ends.proofs.Canceled.{canceled_leaves}
use Rattle.own_ends.proofs.laws.canceled_leaves.Goals as goal

pub returns : goal.returns
returns c = canceled_leaves c.unexpected_checks.ensures
