use Rattle.checked_units.proofs.Programs.{programs_are_known}
use Rattle.checked_units.proofs.laws.programs_are_known.Goals as goal

pub returns : goal.returns
returns c = programs_are_known
