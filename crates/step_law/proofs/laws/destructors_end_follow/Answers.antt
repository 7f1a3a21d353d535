use Rattle.step_law.proofs.Destroyed.{destructors_end_follow}
use Rattle.step_law.proofs.laws.destructors_end_follow.Goals as goal

pub returns : goal.returns
returns c = destructors_end_follow c.destructors_end.ensures
