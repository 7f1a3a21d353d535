use Rattle.checked_units.proofs.Globals.{globals_are_ints}
use Rattle.checked_units.proofs.laws.globals_are_ints.Goals as goal

pub returns : goal.returns
returns c = globals_are_ints
