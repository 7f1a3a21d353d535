use Rattle.step_law.proofs.Forced.{cancels_follow}
use Rattle.step_law.proofs.laws.cancels_follow.Goals as goal

pub returns : goal.returns
returns c = cancels_follow c.cancels_land.ensures
