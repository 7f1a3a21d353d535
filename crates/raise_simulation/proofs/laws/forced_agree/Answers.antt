use Rattle.raise_simulation.proofs.Continuing.{forced_agree}
use Rattle.raise_simulation.proofs.laws.forced_agree.Goals as goal

pub returns : goal.returns
returns c = forced_agree
