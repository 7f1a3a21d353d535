use Rattle.std.proofs.Common.{◌≡◌, ◌+◌, ◌-◌, ◌<◌, ◌^◌, option_map, vec_len}
use Rattle.eh_bytes.specs.Memory.{part_of, memory_of}
use Rattle.table_forms.specs.LsdaChain.{first_record}
use Rattle.table_forms.specs.Fault.{joined}
use Rattle.table_forms.specs.Seen.{fault_of}
use Rattle.lsda_read.specs.Heads.{head_seen}
use Rattle.lsda_read.specs.Rests.{chain_rest}
use Rattle.lsda_read.proofs.chain.chain_refusal.Given as goal

abbrev pub invariant-loop : goal.invariant-loop
invariant-loop l =
    (l.place < 2 ^ 66) ×
    (chain_rest (memory_of l.memory) (part_of l.segment) (head_seen l.head) l.site l.action (1 + vec_len l.segment.bytes) (first_record (head_seen l.head) l.action) ≡
    joined (option_map fault_of l.least) (chain_rest (memory_of l.memory) (part_of l.segment) (head_seen l.head) l.site l.action (1 + vec_len l.segment.bytes - l.counter) l.place))
