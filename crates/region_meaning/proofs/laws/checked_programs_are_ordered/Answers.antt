use Rattle.region_meaning.proofs.Ordered.{checked_programs_are_ordered}
use Rattle.region_meaning.proofs.laws.checked_programs_are_ordered.Goals as goal

pub returns : goal.returns
returns c = checked_programs_are_ordered
