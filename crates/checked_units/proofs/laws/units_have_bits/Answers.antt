use Rattle.checked_units.proofs.Words.{units_have_bits}
use Rattle.checked_units.proofs.laws.units_have_bits.Goals as goal

pub returns : goal.returns
returns c = units_have_bits
