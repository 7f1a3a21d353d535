use Rattle.machine_simulation.proofs.Calling.{calls_run}
use Rattle.machine_simulation.proofs.laws.calls_run.Goals as goal

pub returns : goal.returns
returns c = calls_run c.addresses_are_computed.ensures
