use Rattle.raise_premises.proofs.Tables.{tables_are_few}
use Rattle.raise_premises.proofs.laws.checked_tables_are_few.Goals as goal

pub returns : goal.returns
returns c = tables_are_few c.checked_classes_fit.ensures c.tables_are_short.ensures c.tables_stand.ensures
