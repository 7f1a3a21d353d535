use Rattle.std.specs.Ordering.{nat_cmp}
use Rattle.std.specs.BTreeMap.{get}
use Rattle.std.proofs.Common.{option_map}
use Rattle.eh_bytes.specs.Memory.{part_of, memory_of}
use Rattle.table_forms.specs.Seen.{fault_of}
use Rattle.lsda_read.specs.Heads.{head_seen}
use Rattle.lsda_read.proofs.KnownMore.{lists_stay}
use Rattle.lsda_read.proofs.list_walk.judge_other.Goals as goal

pub returns-clause-lists : goal.returns-clause-lists
returns-clause-lists c =
    lists_stay (memory_of c.args.memory.now) (part_of c.args.segment.now) (head_seen c.args.head.now) (option_map fault_of c.args.known.now.least) (option_map fault_of c.joined-known.result)
    (option_map fault_of c.filter_refusal.result) (get nat_cmp c.args.known.now.lists) c.joined-known.ensures c.requires.lists
