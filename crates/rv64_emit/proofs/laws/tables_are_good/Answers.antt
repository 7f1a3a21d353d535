use Rattle.rv64_emit.proofs.Inside.{tables_are_good}
use Rattle.rv64_emit.proofs.laws.tables_are_good.Goals as goal

pub returns : goal.returns
returns c = tables_are_good c.tables_stand.ensures
