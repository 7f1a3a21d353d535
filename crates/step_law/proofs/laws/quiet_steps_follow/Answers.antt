use Rattle.step_law.proofs.Quiet.{quiet_steps_follow}
use Rattle.step_law.proofs.laws.quiet_steps_follow.Goals as goal

pub returns : goal.returns
returns c = quiet_steps_follow c.operations_run.ensures
