use Rattle.step_law.proofs.Breaks.{breaks_follow}
use Rattle.step_law.proofs.laws.breaks_follow.Goals as goal

pub returns : goal.returns
returns c = breaks_follow
