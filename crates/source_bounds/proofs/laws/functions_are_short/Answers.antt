use Rattle.source_bounds.proofs.Regions.{functions_are_short}
use Rattle.source_bounds.proofs.laws.functions_are_short.Goals as goal

pub returns : goal.returns
returns c = functions_are_short
