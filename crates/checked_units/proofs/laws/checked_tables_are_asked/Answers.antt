use Rattle.checked_units.proofs.TablesAsked.{checked_tables_are_asked}
use Rattle.checked_units.proofs.laws.checked_tables_are_asked.Goals as goal

pub returns : goal.returns
returns c = checked_tables_are_asked
