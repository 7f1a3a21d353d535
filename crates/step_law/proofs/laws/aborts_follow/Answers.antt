use Rattle.step_law.proofs.Aborts.{aborts_follow}
use Rattle.step_law.proofs.laws.aborts_follow.Goals as goal

pub returns : goal.returns
returns c = aborts_follow c.terminates_run.ensures
