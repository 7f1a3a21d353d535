use Rattle.std.proofs.Common.{◌-◌, ap, sym, ◌∙◌, arith}
use Rattle.eh_bytes.specs.Memory.{part_of}
use Rattle.lsda_read.specs.Heads.{types_of}
use Rattle.table_forms.specs.Lsda.{list_value}
use Rattle.std.specs.Prelude.{option_map}
use Rattle.lsda_read.proofs.Steps.{no_index_behind}
use Rattle.lsda_read.proofs.list.SpecList.named.Goals as goal

pub returns-then-first-len : goal.returns-then-first-len
returns-then-first-len c = λ some.
    c.empty-then-first-len.ensures ∙
    sym (ap (λ o. list_value (part_of c.args.segment.now) (option_map types_of o) c.args.j) c.in-Some.is ∙
    no_index_behind (part_of c.args.segment.now) (types_of c.in-Some.types) (c.args.j - 1) (let e = c.if-first-len.true in omega (arith, e)))
