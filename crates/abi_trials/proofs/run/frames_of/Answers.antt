use Rattle.std.proofs.Common.{◌≡◌, ◌∙◌, sym, subst, Ok}
use Rattle.caught_stack.proofs.Bools.{and_true}
use Rattle.eh_bytes.specs.Memory.{Memory, memory_of}
use Rattle.table_forms.specs.Frames as forms
use Rattle.frame_read.specs.ReadsFrames.{ReadsFrames}
use Rattle.frame_walk.specs.Outward.{tables_of}
use Rattle.frame_walk.proofs.Tables.{tables_same}
use Rattle.raise_core.specs.Reads.{are_readable}
use Rattle.raise_core.proofs.Given.{are_tables}
use Rattle.cxa_runtime.specs.Constant.{is_constant}
use Rattle.cxa_runtime.proofs.Unwritten.{constant_lasts}
use Rattle.abi_trials.proofs.run.frames_of.Goals as goal

pub returns-then-tables_last : goal.returns-then-tables_last
returns-then-tables_last c =
    let m = c.args.machine.now in
    let frames = c.in-Ok.frames in
    let same : tables_of m ≡ memory_of c.tables.result.now = tables_same m c.tables.result.now c.tables.ensures in
    let both = and_true (is_constant m) (are_readable m frames) (sym c.tables_last.ensures ∙ c.if-tables_last.true) in
    let reads = subst (λ (k : Memory). ReadsFrames (Ok frames) (forms.frames k c.args.header)) (sym same) c.in-Ok.ensures in
    constant_lasts m both.0 frames (are_tables m frames c.args.header reads both.1)
