use Rattle.region_statements.proofs.Ending.{does_return_value}
use Rattle.region_statements.proofs.laws.values_return.Goals as goal

pub returns : goal.returns
returns c = does_return_value
