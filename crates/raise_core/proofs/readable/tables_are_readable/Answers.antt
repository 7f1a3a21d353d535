use Rattle.std.proofs.Common.{List, ap, sym, ◌∙◌}
use Rattle.std.specs.List.{list_all}
use Rattle.eh_bytes.specs.Memory.{Memory, memory_of}
use Rattle.frame_read.specs.declared.listed.Fde as shown
use Rattle.frame_walk.proofs.Tables.{tables_same}
use Rattle.raise_core.specs.Reads.{is_readable}
use Rattle.raise_core.proofs.readable.tables_are_readable.Goals as goal

pub returns : goal.returns
returns c =
    let segments = memory_of c.tables.result.now in
    c.all_are_readable.ensures ∙ ap (λ (fdes : List shown.Fde). list_all (is_readable segments) fdes) c.fdes.ensures ∙
    ap (λ (m : Memory). list_all (is_readable m) c.args.frames.now.fdes) (sym (tables_same c.args.machine.now c.tables.result.now c.tables.ensures))
