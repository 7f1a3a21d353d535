use Rattle.step_law.proofs.Exceptions.{frees_follow}
use Rattle.step_law.proofs.laws.frees_follow.Goals as goal

pub returns : goal.returns
returns c = frees_follow c.frees_run.ensures
