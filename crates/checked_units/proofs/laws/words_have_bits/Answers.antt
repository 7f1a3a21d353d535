use Rattle.checked_units.proofs.WordBits.{words_have_bits}
use Rattle.checked_units.proofs.laws.words_have_bits.Goals as goal

pub returns : goal.returns
returns c = words_have_bits
