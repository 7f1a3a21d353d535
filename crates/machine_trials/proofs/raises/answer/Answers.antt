use Rattle.std.proofs.Common.{◌≡◌, Ok, sym, subst, ◌∙◌}
use Rattle.eh_bytes.specs.Memory.{Memory, memory_of}
use Rattle.table_forms.specs.Frames as forms
use Rattle.frame_read.specs.ReadsFrames.{ReadsFrames}
use Rattle.frame_walk.specs.Outward.{tables_of}
use Rattle.frame_walk.proofs.Tables.{tables_same}
use Rattle.raise_core.proofs.Given.{are_tables}
use Rattle.machine_trials.proofs.raises.answer.Goals as goal

pub called-requires : goal.called-requires
called-requires c =
    let m = c.args.machine.now in
    let same : tables_of m ≡ memory_of c.tables.result.now = tables_same m c.tables.result.now c.tables.ensures in
    are_tables m c.in-Ok.frames 0x1_00b0 (subst (λ (k : Memory). ReadsFrames (Ok c.in-Ok.frames) (forms.frames k 0x1_00b0)) (sym same) c.in-Ok.ensures) (sym c.tables_are_readable.ensures ∙ c.if-tables_are_readable.true)
