use Rattle.eh_bytes.specs.Memory.{memory_of}
use Rattle.lsda_read.proofs.Whole.{read_whole}
use Rattle.place_verdicts.proofs.function.table_of.Goals as goal

pub returns-else-fde-eq0-clause-whole : goal.returns-else-fde-eq0-clause-whole
returns-else-fde-eq0-clause-whole c =
    read_whole (memory_of c.args.memory.now) c.args.fde.now.lsda c.args.fde.now.region c.known_at.result c.known_at.ensures
