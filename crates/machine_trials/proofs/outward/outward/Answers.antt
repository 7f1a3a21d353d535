use Rattle.std.proofs.Common.{◌≡◌, Ok, sym, subst}
use Rattle.eh_bytes.specs.Memory.{Memory, memory_of}
use Rattle.table_forms.specs.Frames as forms
use Rattle.frame_read.specs.ReadsFrames.{ReadsFrames}
use Rattle.frame_walk.specs.Outward.{tables_of}
use Rattle.frame_walk.proofs.Tables.{tables_same}
use Rattle.machine_trials.proofs.outward.outward.Goals as goal

pub step_out-requires : goal.step_out-requires
step_out-requires c =
    let same : tables_of c.args.machine.now ≡ memory_of c.tables.result.now = tables_same c.args.machine.now c.tables.result.now c.tables.ensures in
    (0x1_00b0, subst (λ (m : Memory). ReadsFrames (Ok c.in-Ok.frames) (forms.frames m 0x1_00b0)) (sym same) c.in-Ok.ensures)
