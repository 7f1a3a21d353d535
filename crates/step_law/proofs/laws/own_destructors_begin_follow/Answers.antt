use Rattle.step_law.proofs.OwnDestroying.{own_destructors_begin_follow}
use Rattle.step_law.proofs.laws.own_destructors_begin_follow.Goals as goal

pub returns : goal.returns
returns c = own_destructors_begin_follow c.own_destructors_begin.ensures c.destructors_overflow.ensures c.stacks_hold_calls.ensures c.canceled_leaves.ensures
