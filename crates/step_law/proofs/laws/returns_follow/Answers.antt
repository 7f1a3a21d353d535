use Rattle.step_law.proofs.Returns.{returns_follow}
use Rattle.step_law.proofs.laws.returns_follow.Goals as goal

pub returns : goal.returns
returns c = returns_follow c.returns_run.ensures
