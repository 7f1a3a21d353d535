use Rattle.checked_units.proofs.CodeEnds.{code_is_low}
use Rattle.checked_units.proofs.laws.code_is_low.Goals as goal

pub returns : goal.returns
returns c = code_is_low
