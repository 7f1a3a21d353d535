use Rattle.machine_simulation.proofs.Lines.{lines_run}
use Rattle.machine_simulation.proofs.laws.lines_run.Goals as goal

pub returns : goal.returns
returns c = lines_run c.calls_are_turns.ensures
