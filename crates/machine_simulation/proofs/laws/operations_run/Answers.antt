use Rattle.machine_simulation.proofs.Operations.{operations_run}
use Rattle.machine_simulation.proofs.laws.operations_run.Goals as goal

pub returns : goal.returns
returns c = operations_run c.places_are_written.ensures c.addresses_are_computed.ensures
