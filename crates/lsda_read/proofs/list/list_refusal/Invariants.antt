use Rattle.std.proofs.Common.{◌+◌, ◌-◌, ◌≤◌, option_map, vec_len}
use Rattle.eh_bytes.specs.Memory.{part_of, memory_of}
use Rattle.table_forms.specs.Seen.{fault_of}
use Rattle.lsda_read.specs.Heads.{head_seen, types_of}
use Rattle.lsda_read.proofs.OnWay.{OnWay}
use Rattle.lsda_read.proofs.Indices.{list_rest}
use Rattle.lsda_read.proofs.list.list_refusal.Given as goal

abbrev pub invariant-indices : goal.invariant-indices
invariant-indices l =
    (l.place ≤ vec_len l.segment.bytes) ×
    OnWay (list_rest (memory_of l.memory) (part_of l.segment) (head_seen l.head) (types_of l.types) l.named_at l.first) (vec_len l.segment.bytes)
    (list_rest (memory_of l.memory) (part_of l.segment) (head_seen l.head) (types_of l.types) l.named_at l.first (1 + vec_len l.segment.bytes) l.first)
    (option_map fault_of l.least) l.place

abbrev pub decreases-indices : goal.decreases-indices
decreases-indices l = vec_len l.segment.bytes - l.place
