use Rattle.machine_simulation.proofs.Exiting.{exits_end}
use Rattle.machine_simulation.proofs.laws.exits_end.Goals as goal

pub returns : goal.returns
returns c = exits_end c.calls_are_turns.ensures
