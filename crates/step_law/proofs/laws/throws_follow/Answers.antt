use Rattle.step_law.proofs.Throws.{throws_follow}
use Rattle.step_law.proofs.laws.throws_follow.Goals as goal

pub returns : goal.returns
returns c = throws_follow c.throws_land.ensures c.dooms_follow.ensures
