use Rattle.source_bounds.proofs.Row.{functions_stand_in_row}
use Rattle.source_bounds.proofs.laws.functions_stand_in_row.Goals as goal

pub returns : goal.returns
returns c = functions_stand_in_row c.functions_are_apart.ensures
