use Rattle.step_law.proofs.Rethrows.{rethrows_follow}
use Rattle.step_law.proofs.laws.rethrows_follow.Goals as goal

pub returns : goal.returns
returns c = rethrows_follow c.rethrows_land.ensures c.rethrow_dooms_follow.ensures c.aborts_follow.ensures c.terminates_follow.ensures
