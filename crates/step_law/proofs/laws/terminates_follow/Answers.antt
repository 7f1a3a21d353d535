use Rattle.step_law.proofs.Terminates.{terminates_follow}
use Rattle.step_law.proofs.laws.terminates_follow.Goals as goal

pub returns : goal.returns
returns c = terminates_follow c.terminates_run.ensures c.terminates_overflow.ensures c.stacks_hold_calls.ensures
