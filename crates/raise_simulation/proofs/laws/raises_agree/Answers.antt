use Rattle.raise_simulation.proofs.Continuing.{raises_agree}
use Rattle.raise_simulation.proofs.laws.raises_agree.Goals as goal

pub returns : goal.returns
returns c = raises_agree
