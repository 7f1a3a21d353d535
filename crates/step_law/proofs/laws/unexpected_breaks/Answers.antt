use Rattle.step_law.proofs.Unexpecting.{unexpected_breaks}
use Rattle.step_law.proofs.laws.unexpected_breaks.Goals as goal

pub returns : goal.returns
returns c = unexpected_breaks
