use Rattle.step_law.proofs.Returns.{exits_follow}
use Rattle.step_law.proofs.laws.exits_follow.Goals as goal

pub returns : goal.returns
returns c = exits_follow c.exits_end.ensures
