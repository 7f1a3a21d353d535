use Rattle.step_law.proofs.Leaving.{leaves_follow}
use Rattle.step_law.proofs.laws.leaves_follow.Goals as goal

pub returns : goal.returns
returns c = leaves_follow c.leaves_run.ensures
