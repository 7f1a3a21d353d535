use Rattle.source_bounds.proofs.RegisterUnits.{registers_suffice}
use Rattle.source_bounds.proofs.laws.registers_suffice.Goals as goal

pub returns : goal.returns
returns c = registers_suffice
