use Rattle.step_law.proofs.Lines.{bytes_follow}
use Rattle.step_law.proofs.laws.bytes_follow.Goals as goal

pub returns : goal.returns
returns c = bytes_follow c.bytes_run.ensures
