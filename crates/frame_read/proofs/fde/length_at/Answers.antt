use Rattle.std.proofs.Common.{ℕ, ◌+◌, Result, subst}
use Rattle.eh_bytes.specs.declared.encoded.Pointer.{Pointer}
use Rattle.eh_bytes.specs.Memory.{part_of}
use Rattle.table_forms.specs.Fault.{Fault}
use Rattle.frame_read.specs.Reads.{Reads}
use Rattle.frame_read.proofs.Unmoved.{unmoved_at}
use Rattle.frame_read.proofs.fde.length_at.Goals as goal

pub returns-clause-reads : goal.returns-clause-reads
returns-clause-reads c =
    let s = part_of c.args.segment.now in
    let P : Result (Pointer × ℕ) Fault → Type 0 = λ r. Reads (λ x. x) c.encoded_at.result r in
    subst P (unmoved_at c.args.encoding (s.address + c.args.place) s c.args.stop c.args.place) c.encoded_at.ensures.reads
