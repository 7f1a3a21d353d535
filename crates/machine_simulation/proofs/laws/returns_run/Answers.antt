use Rattle.machine_simulation.proofs.Returning.{returns_run}
use Rattle.machine_simulation.proofs.laws.returns_run.Goals as goal

pub returns : goal.returns
returns c = returns_run c.places_are_written.ensures
