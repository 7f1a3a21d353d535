use Rattle.std.specs.Ordering.{nat_cmp}
use Rattle.std.specs.BTreeMap.{get}
use Rattle.std.proofs.Common.{◌≡◌, ◌+◌, ◌-◌, length, option_map}
use Rattle.eh_bytes.specs.Memory.{part_of, memory_of}
use Rattle.table_forms.specs.Fault.{joined}
use Rattle.table_forms.specs.Seen.{fault_of}
use Rattle.lsda_read.specs.Heads.{head_seen, types_of}
use Rattle.lsda_read.specs.KnownLists.{rest_of_list}
use Rattle.lsda_read.proofs.ListWalking.{ListWalking}
use Rattle.lsda_read.proofs.list_walk.walk_list.Given as goal

abbrev pub invariant-indices : goal.invariant-indices
invariant-indices l =
    ListWalking (memory_of l.memory) (part_of l.segment) (head_seen l.head) (types_of l.types) l.named_at l.first
    (joined (option_map fault_of l.initial.known.least) (rest_of_list (memory_of l.memory) (part_of l.segment) (head_seen l.head) (types_of l.types) l.named_at l.first (1 + length l.segment.bytes.items) l.first))
    (option_map fault_of l.known.least) (get nat_cmp l.known.lists) l.path.items l.place ×
    (l.known.chains ≡ l.initial.known.chains)

abbrev pub decreases-indices : goal.decreases-indices
decreases-indices l = length l.segment.bytes.items - l.place
