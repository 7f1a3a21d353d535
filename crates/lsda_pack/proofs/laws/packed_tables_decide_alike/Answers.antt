use Rattle.lsda_pack.proofs.Decides.{packed_table_decides}
use Rattle.lsda_pack.proofs.laws.packed_tables_decide_alike.Goals as goal

pub returns : goal.returns
returns c = packed_table_decides
