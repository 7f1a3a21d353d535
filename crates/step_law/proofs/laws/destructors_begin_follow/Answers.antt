use Rattle.step_law.proofs.Destroying.{destructors_begin_follow}
use Rattle.step_law.proofs.laws.destructors_begin_follow.Goals as goal

pub returns : goal.returns
returns c = destructors_begin_follow c.destructors_begin.ensures c.destructors_overflow.ensures c.stacks_hold_calls.ensures
