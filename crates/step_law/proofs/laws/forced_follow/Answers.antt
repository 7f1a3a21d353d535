use Rattle.step_law.proofs.Forced.{forced_follow}
use Rattle.step_law.proofs.laws.forced_follow.Goals as goal

pub returns : goal.returns
returns c = forced_follow c.forced_lands.ensures
