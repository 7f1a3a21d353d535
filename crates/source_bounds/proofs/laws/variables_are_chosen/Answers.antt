use Rattle.source_bounds.proofs.KeptChoice.{variables_are_chosen}
use Rattle.source_bounds.proofs.laws.variables_are_chosen.Goals as goal

pub returns : goal.returns
returns c = variables_are_chosen
