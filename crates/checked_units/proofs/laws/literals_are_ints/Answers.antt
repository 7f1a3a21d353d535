use Rattle.checked_units.proofs.Spelled.{literals_are_ints}
use Rattle.checked_units.proofs.laws.literals_are_ints.Goals as goal

pub returns : goal.returns
returns c = literals_are_ints
