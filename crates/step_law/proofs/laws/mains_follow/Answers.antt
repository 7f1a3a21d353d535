use Rattle.step_law.proofs.Returns.{mains_follow}
use Rattle.step_law.proofs.laws.mains_follow.Goals as goal

pub returns : goal.returns
returns c = mains_follow c.mains_end.ensures
