use Rattle.region_typed.proofs.Programs.{checked_typed}
use Rattle.region_typed.proofs.laws.checked_programs_are_typed.Goals as goal

pub returns : goal.returns
returns c = record { typed = checked_typed }
