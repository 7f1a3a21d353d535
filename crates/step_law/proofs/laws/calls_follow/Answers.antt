use Rattle.step_law.proofs.Calls.{calls_follow}
use Rattle.step_law.proofs.laws.calls_follow.Goals as goal

pub returns : goal.returns
returns c = calls_follow c.calls_run.ensures c.calls_overflow.ensures c.stacks_hold_calls.ensures
