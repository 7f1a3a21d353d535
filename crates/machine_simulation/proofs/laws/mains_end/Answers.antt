use Rattle.machine_simulation.proofs.Ending.{mains_end}
use Rattle.machine_simulation.proofs.laws.mains_end.Goals as goal

pub returns : goal.returns
returns c = mains_end c.calls_are_turns.ensures
