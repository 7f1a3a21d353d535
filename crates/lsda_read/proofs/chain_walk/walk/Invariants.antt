use Rattle.std.specs.Ordering.{nat_cmp}
use Rattle.std.specs.BTreeMap.{get}
use Rattle.std.proofs.Common.{◌+◌, ◌<◌, ◌^◌, option_map, length}
use Rattle.eh_bytes.specs.Memory.{part_of, memory_of}
use Rattle.table_forms.specs.Fault.{joined}
use Rattle.table_forms.specs.Seen.{fault_of}
use Rattle.lsda_read.specs.Heads.{head_seen}
use Rattle.lsda_read.specs.Rests.{chain_rest}
use Rattle.lsda_read.specs.Known.{unknown}
use Rattle.lsda_read.specs.KnownLists.{AreListsKnown}
use Rattle.lsda_read.proofs.Walking.{Walking}
use Rattle.lsda_read.proofs.chain_walk.walk.Given as goal

abbrev pub invariant-walk : goal.invariant-walk
invariant-walk l =
    (l.place < 2 ^ 66) ×
    Walking (memory_of l.memory) (part_of l.segment) (head_seen l.head)
    (λ site a. joined (option_map fault_of l.initial.known.least) (chain_rest (memory_of l.memory) (part_of l.segment) (head_seen l.head) site a (1 + length l.segment.bytes.items) l.first))
    (unknown (get nat_cmp l.initial.known.chains) (length l.segment.bytes.items)) (option_map fault_of l.known.least) (get nat_cmp l.known.chains) l.path.items l.place ×
    AreListsKnown (memory_of l.memory) (part_of l.segment) (head_seen l.head) (option_map fault_of l.known.least) (get nat_cmp l.known.lists)

abbrev pub decreases-walk : goal.decreases-walk
decreases-walk l = unknown (get nat_cmp l.known.chains) (length l.segment.bytes.items)
