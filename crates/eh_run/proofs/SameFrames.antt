-- Frames that no program writes.
use Rattle.std.proofs.Common.{◌≡◌, ◌∙◌, refl, ap, ℕ, ◌+◌, ◌-◌, true, ◌++◌, Option, Some, None}
use Rattle.eh_bytes.specs.Memory.{Part, Memory, part_with}
use Rattle.table_forms.specs.Fault.{least, answer, ◌>>=◌}
use Rattle.table_forms.specs.Header.{header_at}
use Rattle.table_forms.specs.Parts.{Parts}
use Rattle.table_forms.specs.Frames.{parts_in, parts_behind, table_disagreement, frames_in, frames_from, frames}
use Rattle.elf_image.specs.Runnable.{start_in, frames_start}
use Rattle.eh_run.proofs.Alike.{AreAlike, IsFixed, same_found}

-- where the frames begin, if the header says it
abbrev pub IsStartFixed : Memory → Option ℕ → Type 0
IsStartFixed memory None = Unit {0}
IsStartFixed memory (Some a) = IsFixed (part_with memory a)

same_parts : (ms ns : Memory) (place : ℕ) (start : Option ℕ) → AreAlike ms ns → IsStartFixed ns start → parts_behind ms place start ≡ parts_behind ns place start
same_parts ms ns place None h fixed = refl
same_parts ms ns place (Some a) h fixed = ap (λ o. parts_in place o a) (same_found ms ns a h fixed)

same_in : (ms ns : Memory) (p : ℕ) (part : Part) → AreAlike ms ns → IsStartFixed ns (header_at part p).frames_at → frames_in ms p part ≡ frames_in ns p part
unfolding frames_in
same_in ms ns p part h fixed =
    let header = header_at part p in
    ap (λ (parts : Parts). answer (least (header.faults ++ parts.faults)) true >>= λ _.
    answer (table_disagreement (part.file_at + (p + 12)) header.rows parts.fdes) (record { cies = parts.cies; fdes = parts.fdes }))
    (same_parts ms ns (part.file_at + (p + 4)) header.frames_at h fixed)

-- what is read of a header and frames that may not be written is the same
pub same_frames : (ms ns : Memory) (header : ℕ) → AreAlike ms ns → IsFixed (part_with ns header) → IsStartFixed ns (frames_start ns header) → frames ms header ≡ frames ns header
unfolding frames
same_frames ms ns header h fixed start = ap (frames_from ms header) (same_found ms ns header h fixed) ∙ by (part_with ns header) start
  where
    by : (o : Option Part) → IsStartFixed ns (start_in header o) → frames_from ms header o ≡ frames_from ns header o
    by None start = refl
    by (Some part) start = same_in ms ns (header - part.address) part h start
