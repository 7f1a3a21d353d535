use Rattle.std.proofs.Common.{rules, ◌≡◌}
use Rattle.eh_bytes.specs.Memory.{memory_of}
use Rattle.table_forms.specs.Keys.{keys}
use Rattle.lsda_read.specs.Names.{types_named}
use Rattle.image_doubts.proofs.Lines.{types_put}
use Rattle.image_doubts.proofs.types.put_types.Goals as goal

pub returns : goal.returns
returns c =
    let t = c.args.table.now in
    let types : c.as_slice.result.now ≡ keys (types_named t) = search rules in
    types_put (memory_of c.args.memory.now) c.args.region t c.as_slice.result.now c.args.out.now.items c.put_each.new.out.items c.requires types c.in_ok-put_each.ensures
