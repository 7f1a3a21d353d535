use Rattle.raise_premises.proofs.JumpFilters.{jumps_are_ints}
use Rattle.raise_premises.proofs.laws.checked_jumps_are_ints.Goals as goal

pub returns : goal.returns
returns c = jumps_are_ints c.checked_tables_are_few.ensures
