use Rattle.std.proofs.Common.{ℕ, ◌==◌, if◌then◌else◌, subst, sym}
use Rattle.eh_bytes.specs.Memory.{part_of}
use Rattle.eh_bytes.specs.Field.{byte}
use Rattle.eh_bytes.specs.Leb128.{uleb}
use Rattle.table_forms.specs.Instruction.{in_frames}
use Rattle.frame_read.specs.Reads.{Reads}
use Rattle.frame_read.proofs.cie.register_number.Goals as goal

pub returns-then-version-eq1-clause-reads : goal.returns-then-version-eq1-clause-reads
returns-then-version-eq1-clause-reads c =
    let P : ℕ → Type 0 = λ v. Reads (λ x. x) c.byte_number.result (in_frames (if v == 1 then byte else uleb) (part_of c.args.segment.now) c.args.stop c.args.place) in
    subst P (sym c.if-version-eq1.true) c.byte_number.ensures.reads
