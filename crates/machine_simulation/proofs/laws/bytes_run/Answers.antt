use Rattle.machine_simulation.proofs.Reading.{bytes_run}
use Rattle.machine_simulation.proofs.laws.bytes_run.Goals as goal

pub returns : goal.returns
returns c = bytes_run c.places_are_written.ensures c.calls_are_turns.ensures
