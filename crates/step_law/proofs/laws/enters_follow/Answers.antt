use Rattle.step_law.proofs.Exceptions.{enters_follow}
use Rattle.step_law.proofs.laws.enters_follow.Goals as goal

pub returns : goal.returns
returns c = enters_follow c.enters_run.ensures
