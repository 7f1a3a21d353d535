use Rattle.std.proofs.Common.{◌∙◌, sym, Some}
use Rattle.eh_bytes.specs.Memory.{memory_of}
use Rattle.image_doubts.proofs.Turned.{function_put}
use Rattle.image_doubts.proofs.function.put_function.Goals as goal

pub returns-in_ok-put_table-in-Some : goal.returns-in_ok-put_table-in-Some
returns-in_ok-put_table-in-Some c = λ i g read is.
    function_put (memory_of c.args.image.now.elf.segments) c.args.image.now.frames c.args.fde.now g i.functions (Some c.in-Some.table) c.args.out.now.items c.put_no_code.new.out.items c.put_table.new.out.items is
    (sym c.in-Some.is ∙ c.table_of.ensures.table g.table is.table) c.in_ok-put_no_code.ensures (c.in_ok-put_table-in-Some.ensures i read)
