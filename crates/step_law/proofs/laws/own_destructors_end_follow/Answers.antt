use Rattle.step_law.proofs.OwnDestroyed.{own_destructors_end_follow}
use Rattle.step_law.proofs.laws.own_destructors_end_follow.Goals as goal

pub returns : goal.returns
returns c = own_destructors_end_follow c.own_destructors_end.ensures
