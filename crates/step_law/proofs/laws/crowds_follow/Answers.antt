use Rattle.step_law.proofs.Terminates.{crowds_follow}
use Rattle.step_law.proofs.laws.crowds_follow.Goals as goal

pub returns : goal.returns
returns c = crowds_follow c.terminates_run.ensures c.terminates_overflow.ensures c.stacks_hold_calls.ensures
