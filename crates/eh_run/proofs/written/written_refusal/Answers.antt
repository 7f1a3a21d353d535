use Rattle.std.proofs.Common.{◌∙◌, ap}
use Rattle.std.specs.Prelude.{option_map}
use Rattle.eh_bytes.specs.Memory.{memory_of}
use Rattle.table_forms.specs.Fault.{least, joined}
use Rattle.table_forms.specs.Seen.{fault_of}
use Rattle.elf_image.specs.Runnable.{written_at, frames_written, frames_start}
use Rattle.eh_run.specs.Written.{tables_written}
use Rattle.eh_run.proofs.Writable.{least_of_three}
use Rattle.eh_run.proofs.written.written_refusal.Goals as goal

pub returns : goal.returns
returns c = λ d read.
    let memory = memory_of c.args.memory.now in
    let a = written_at memory c.args.header in
    let b = frames_written memory (frames_start memory c.args.header) in
    let t = tables_written memory c.args.fdes.now in
    c.joined.ensures ∙ ap (λ o. joined o (option_map fault_of c.tables_written.result)) (c.joined-frames.ensures ∙ ap (λ o. joined o (option_map fault_of c.frames_written.result)) c.written_at.ensures ∙
    ap (joined (least a)) (c.frames_written.ensures d read)) ∙ ap (joined (joined (least a) (least b))) c.tables_written.ensures ∙ least_of_three a b t
