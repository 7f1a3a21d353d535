use Rattle.step_law.proofs.OwnLeft.{own_leaves_follow}
use Rattle.step_law.proofs.laws.own_leaves_follow.Goals as goal

pub returns : goal.returns
returns c = own_leaves_follow c.own_handlers_left.ensures c.canceled_leaves.ensures
