use Rattle.std.proofs.Common.{ap, sym, ◌∙◌, Some, arith}
use Rattle.eh_bytes.specs.Memory.{part_of, memory_of}
use Rattle.lsda_read.specs.Heads.{head_seen, types_of}
use Rattle.table_forms.proofs.Beyond.{list_behind}
use Rattle.lsda_read.proofs.filter.list_named.Goals as goal

pub returns-then-first-len : goal.returns-then-first-len
returns-then-first-len c =
    ap Some c.refused.ensures ∙
    sym (list_behind (memory_of c.args.memory.now) (part_of c.args.segment.now) (head_seen c.args.head.now) (types_of c.args.types.now) c.args.named_at c.args.behind (let e = c.if-first-len.true in omega (arith, e)))
