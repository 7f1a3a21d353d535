use Rattle.step_law.proofs.Exceptions.{makes_follow}
use Rattle.step_law.proofs.laws.makes_follow.Goals as goal

pub returns : goal.returns
returns c = makes_follow c.makes_run.ensures
