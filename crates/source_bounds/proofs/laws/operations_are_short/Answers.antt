use Rattle.source_bounds.proofs.Operations.{operations_are_short}
use Rattle.source_bounds.proofs.laws.operations_are_short.Goals as goal

pub returns : goal.returns
returns c = operations_are_short
