use Rattle.source_bounds.proofs.Registers.{needs_few}
use Rattle.source_bounds.proofs.laws.values_need_few.Goals as goal

pub returns : goal.returns
returns c = needs_few
