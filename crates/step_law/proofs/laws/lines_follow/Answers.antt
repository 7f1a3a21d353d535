use Rattle.step_law.proofs.Lines.{lines_follow}
use Rattle.step_law.proofs.laws.lines_follow.Goals as goal

pub returns : goal.returns
returns c = lines_follow c.lines_run.ensures
