use Rattle.region_simulation.proofs.Assigning.{assignments_store}
use Rattle.region_simulation.proofs.laws.assignments_store.Goals as goal

pub returns : goal.returns
returns c = assignments_store
