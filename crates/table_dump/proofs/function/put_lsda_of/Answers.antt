use Rattle.eh_bytes.specs.Memory.{memory_of}
use Rattle.lsda_read.proofs.Whole.{read_whole}
use Rattle.table_dump.proofs.function.put_lsda_of.Goals as goal

pub put_named-requires : goal.put_named-requires
put_named-requires c = read_whole (memory_of c.args.memory.now) c.args.fde.now.lsda c.args.fde.now.region c.known_at-table.result c.known_at-table.ensures
