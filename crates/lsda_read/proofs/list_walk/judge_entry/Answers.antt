use Rattle.std.proofs.Common.{option_map, ap, ◌∙◌}
use Rattle.eh_bytes.specs.Memory.{part_of, memory_of}
use Rattle.table_forms.specs.Fault.{joined}
use Rattle.table_forms.specs.Seen.{fault_of}
use Rattle.lsda_read.specs.Heads.{head_seen, types_of}
use Rattle.lsda_read.proofs.ListTurning.{entry_judged}
use Rattle.lsda_read.proofs.list_walk.judge_entry.Goals as goal

pub returns-clause-entry : goal.returns-clause-entry
returns-clause-entry c =
    entry_judged (memory_of c.args.memory.now) (part_of c.args.segment.now) (head_seen c.args.head.now) (types_of c.args.types.now)
    (option_map fault_of c.args.known.now.least) (option_map fault_of c.joined-known.result) c.args.named_at c.args.i
    (c.joined-known.ensures ∙ ap (joined (option_map fault_of c.args.known.now.least)) c.entry_refusal-refusal.ensures)
