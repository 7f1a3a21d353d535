use Rattle.step_law.proofs.Starting.{starts_stand}
use Rattle.step_law.proofs.laws.starts_stand.Goals as goal

pub returns : goal.returns
returns c = starts_stand
