use Rattle.step_law.proofs.Dooms.{dooms_follow}
use Rattle.step_law.proofs.laws.dooms_follow.Goals as goal

pub returns : goal.returns
returns c = dooms_follow c.dooms_run.ensures c.dooms_abort.ensures c.dooms_overflow.ensures c.stacks_hold_calls.ensures
