use Rattle.table_verdicts.proofs.Telling.{tables_decide}
use Rattle.table_verdicts.proofs.laws.tables_decide.Goals as goal

pub returns : goal.returns
returns c = tables_decide
