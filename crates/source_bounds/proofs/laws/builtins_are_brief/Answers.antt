use Rattle.source_bounds.proofs.ArityPrograms.{builtins_take_few}
use Rattle.source_bounds.proofs.laws.builtins_are_brief.Goals as goal

pub returns : goal.returns
returns c = builtins_take_few
