use Rattle.step_law.proofs.Barred.{barred_follow}
use Rattle.step_law.proofs.laws.barred_follow.Goals as goal

pub returns : goal.returns
returns c = barred_follow c.forced_unwinds_terminate.ensures c.forced_unwinds_overflow.ensures c.stacks_hold_calls.ensures
