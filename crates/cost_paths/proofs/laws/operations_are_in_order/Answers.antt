use Rattle.cost_paths.proofs.Functions.{operations_are_in_order}
use Rattle.cost_paths.proofs.laws.operations_are_in_order.Goals as goal

pub returns : goal.returns
returns c = operations_are_in_order
