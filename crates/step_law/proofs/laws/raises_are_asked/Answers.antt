use Rattle.step_law.proofs.Raises.{raises_are_asked}
use Rattle.step_law.proofs.laws.raises_are_asked.Goals as goal

pub returns : goal.returns
returns c = raises_are_asked
