use Rattle.source_bounds.proofs.Counted.{programs_are_short}
use Rattle.source_bounds.proofs.laws.programs_are_short.Goals as goal

pub returns : goal.returns
returns c = programs_are_short
