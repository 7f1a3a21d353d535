-- Loading by its steps.
use Rattle.std.proofs.Common.{◌≡◌, ◌∙◌, refl, sym, ap, subst, ℕ, ◌+◌, ◌≤◌, true, List, ◌++◌, length, map, Option, Some, None, Result, Ok, Err}
use Rattle.std.specs.Prelude.{IsErrAnd, IsOkAnd, is_some, flat_map, unwrap_or}
use Rattle.std.specs.List.{AllByRecursion}
use Rattle.eh_bytes.specs.Memory as read
use Rattle.eh_bytes.specs.Memory.{memory_of}
use Rattle.eh_bytes.specs.Extent.{AreBelow, extents_of}
use Rattle.eh_bytes.specs.declared.segment.Segment.{Segment}
use Rattle.eh_bytes.specs.declared.unit.RuntimeRecord.{RuntimeRecord}
use Rattle.table_forms.specs.Fault.{Fault, least, answer, ◌>>=◌}
use Rattle.table_forms.specs.Frames.{Frames, frames}
use Rattle.elf_image.specs.declared.error.ImageError.{ImageError}
use Rattle.elf_image.specs.declared.error.ImageError.TheVariants as errors
use Rattle.elf_image.specs.Elf.{Image}
use Rattle.elf_image.specs.Clean.{CleanImage, judged}
use Rattle.elf_image.specs.Reports.{reported}
use Rattle.elf_image.specs.Runnable.{written_at, frames_written, frames_start, table_written, written_faults, runnable}
use Rattle.elf_image.proofs.Cleaned.{read_from}
use Rattle.table_check.specs.Checks.{IsReported, IsSeen}
use Rattle.table_check.specs.declared.clean.CleanImage as found
use Rattle.table_forms.specs.Fde.{Fde}
use Rattle.frame_read.specs.declared.listed.Fde as shown
use Rattle.rv64_isa.specs.State.{State, Part}
use Rattle.rv64_machine.specs.Initial.{initial}
use Rattle.rv64_machine.specs.Parts.{part_of}
use Rattle.frame_read.specs.ReadsFrames.{Listing}
use Rattle.frame_walk.specs.Outward.{part_read, tables_of}
use Rattle.cxa_runtime.specs.Kept.{Kept, at_first}
use Rattle.cxa_runtime.specs.Lasting.{LastsAs}
use Rattle.eh_run.specs.Program.{Program, fdes_of, hart_of, no_places, program_of}
use Rattle.eh_run.specs.Ready.{IsReady, program_in}
use Rattle.eh_run.specs.Written.{tables_written}
use Rattle.eh_run.proofs.Lasting.{image_lasts, parts_run, run_back}
use Rattle.eh_run.proofs.Low.{may_run, are_below}
use Rattle.eh_run.proofs.Writable.{tables_listed}

-- ---- refusals
pub refused_before : (file : List ℕ) (e : ImageError) → IsReported e (judged file true) → IsReported e (runnable file)
unfolding runnable
refused_before file errors.NoMemory said = tt
refused_before file (errors.Refused reason place location other) said = by (judged file true) said
  where
    by : (r : Result CleanImage Fault) → IsErrAnd r (λ f. errors.Refused reason place location other ≡ reported f) →
        IsErrAnd (r >>= λ i. answer (least (written_faults i)) i) (λ f. errors.Refused reason place location other ≡ reported f)
    by (Ok i) said = absurd said
    by (Err f) said = said

behind : (file : List ℕ) (i : CleanImage) (o : Option Fault) → judged file true ≡ Ok i → least (written_faults i) ≡ o → runnable file ≡ answer o i
unfolding runnable
behind file i o is written =
    ap (λ (r : Result CleanImage Fault). r >>= λ x. answer (least (written_faults x)) x) is ∙ ap (λ (x : Option Fault). answer x i) written

pub refused_written : (file : List ℕ) (i : CleanImage) (f : Fault) (e : ImageError) → judged file true ≡ Ok i → least (written_faults i) ≡ Some f → e ≡ reported f → IsReported e (runnable file)
refused_written file i f e is written said =
    subst (λ (x : ImageError). IsReported x (runnable file)) (sym said)
    (subst (λ (r : Result CleanImage Fault). IsErrAnd r (λ g. reported f ≡ reported g)) (sym (behind file i (Some f) is written)) refl)

pub not_refused : (file : List ℕ) (i : CleanImage) → judged file true ≡ Ok i → least (written_faults i) ≡ None → runnable file ≡ Ok i
not_refused file i is none = behind file i None is none

-- ---- what is written of the image that was read
pub written_seen : (file : List ℕ) (x : found.CleanImage) (i : CleanImage) (fdes : List shown.Fde) (o : Option Fault) → judged file true ≡ Ok i → IsSeen x i → fdes ≡ x.order.items →
    ((d : Frames) → frames (memory_of x.elf.segments) x.elf.frame_header ≡ Ok d → o ≡ least (written_at (memory_of x.elf.segments) x.elf.frame_header ++
    frames_written (memory_of x.elf.segments) (frames_start (memory_of x.elf.segments) x.elf.frame_header) ++ tables_written (memory_of x.elf.segments) fdes)) →
    o ≡ least (written_faults i)
unfolding written_faults
written_seen file x i fdes o is seen order told =
    let from = read_from file true i is in
    let read = subst (λ (image : Image). frames image.memory image.frame_header ≡ Ok from.read) (sym seen.image) from.frames_read in
    let m = memory_of x.elf.segments in
    let header = x.elf.frame_header in
    let front = written_at m header ++ frames_written m (frames_start m header) in
    told from.read read ∙
    ap (λ fs. least (front ++ fs)) (ap (tables_written m) (order ∙ seen.fdes) ∙ tables_listed m i.functions) ∙
    ap (λ (image : Image). least (written_at image.memory image.frame_header ++ frames_written image.memory (frames_start image.memory image.frame_header) ++
    flat_map (table_written image.memory) i.functions)) seen.image

-- it has a record for the runtime
pub has_places : (file : List ℕ) (x : found.CleanImage) (i : CleanImage) → judged file true ≡ Ok i → IsSeen x i → x.elf.runtime ≡ None → ⊥
has_places file x i is seen none =
    let from = read_from file true i is in
    let some = (may_run file i.image from.image).places in
    let same : x.elf.runtime ≡ i.image.runtime = ap (λ (image : Image). image.runtime) seen.image in
    no_record (i.image.runtime) (sym same ∙ none) some
  where
    no_record : (o : Option RuntimeRecord) → o ≡ None → is_some o ≡ true → ⊥
    no_record None e f = absurd cc
    no_record (Some r) e f = absurd cc

-- ---- what was made of it
-- the image in this file was read, and nothing of it is refused
pub record IsLoaded (file : List ℕ) (x : found.CleanImage) (i : CleanImage) : Type 0 where
  pub is : judged file true ≡ Ok i
  pub seen : IsSeen x i
  pub none : least (written_faults i) ≡ None

pub is_loaded : (file : List ℕ) (x : found.CleanImage) (i : CleanImage) (fdes : List shown.Fde) (o : Option Fault) → judged file true ≡ Ok i → IsSeen x i → fdes ≡ x.order.items →
    ((d : Frames) → frames (memory_of x.elf.segments) x.elf.frame_header ≡ Ok d → o ≡ least (written_at (memory_of x.elf.segments) x.elf.frame_header ++
    frames_written (memory_of x.elf.segments) (frames_start (memory_of x.elf.segments) x.elf.frame_header) ++ tables_written (memory_of x.elf.segments) fdes)) →
    o ≡ None → IsLoaded file x i
is_loaded file x i fdes o is seen order told none = record { is = is; seen = seen; none = sym (written_seen file x i fdes o is seen order told) ∙ none }

pub below : (file : List ℕ) (x : found.CleanImage) (i : CleanImage) → judged file true ≡ Ok i → IsSeen x i → AreBelow 0x6000_0000 (extents_of x.elf.segments.parts.items)
below file x i is seen =
    let from = read_from file true i is in
    are_below x.elf.segments.parts.items
    (subst (λ (image : Image). AllByRecursion (λ part. part.address + length part.bytes ≤ 0x6000_0000) image.memory) (sym seen.image) (may_run file i.image from.image).below)

-- the hart over these segments, at a pc
abbrev pub hart_at : List Segment → ℕ → State
hart_at parts pc = record (initial (map part_of parts)) { pc = pc }

hart_tables : (parts : List Segment) (pc : ℕ) → tables_of (hart_at parts pc) ≡ map read.part_of parts
hart_tables parts pc = ap (map part_read) (parts_run parts) ∙ run_back (map read.part_of parts)

pub loaded_lasts : (file : List ℕ) (x : found.CleanImage) (i : CleanImage) (s : State) (pc : ℕ) → IsLoaded file x i → s ≡ hart_at x.elf.segments.parts.items pc →
    LastsAs s x.frames (fdes_of (tables_of s) x.elf.frame_header)
loaded_lasts file x i s pc loaded made =
    let seen = loaded.seen in
    let tables : tables_of s ≡ i.image.memory = ap tables_of made ∙ hart_tables x.elf.segments.parts.items pc ∙ ap (λ (image : Image). image.memory) seen.image in
    let header : i.image.frame_header ≡ x.elf.frame_header = sym (ap (λ (image : Image). image.frame_header) seen.image) in
    subst (λ (h : ℕ). LastsAs s x.frames (fdes_of (tables_of s) h)) header (image_lasts file i s x.frames loaded.is loaded.none tables seen.frames_read)

pub ready : (runtime : Kept) (s : State) (frames : Listing) (places : RuntimeRecord) (header : ℕ) → runtime ≡ at_first s frames places →
    LastsAs s frames (fdes_of (tables_of s) header) → IsReady runtime header
ready runtime s frames places header made lasts = record {
  fresh = made ∙ sym (ap (λ (k : Kept). at_first k.hart k.frames k.places) made);
  lasts = subst (λ (k : Kept). LastsAs k.hart k.frames (fdes_of (tables_of k.hart) header)) (sym made) lasts;
}

abbrev program_with : List Fde → RuntimeRecord → State → Program
program_with fdes places hart = record { image = record { fdes = fdes; places = places }; hart = hart }

abbrev program_at : Image → Program
program_at i = record {
  image = record { fdes = fdes_of i.memory i.frame_header; places = unwrap_or i.runtime no_places };
  hart = hart_of i;
}

pub program_is : (file : List ℕ) (x : found.CleanImage) (i : CleanImage) (runtime : Kept) (s : State) (places : RuntimeRecord) → IsLoaded file x i →
    s ≡ hart_at x.elf.segments.parts.items x.elf.entry → runtime ≡ at_first s x.frames places → x.elf.runtime ≡ Some places →
    IsOkAnd (runnable file) (λ j. program_in runtime x.elf.frame_header ≡ program_of j)
program_is file x i runtime s places loaded hart made has =
    let header = x.elf.frame_header in
    let parts = x.elf.segments.parts.items in
    let h = hart_at parts x.elf.entry in
    let first = ap (λ (k : Kept). program_in k header) made in
    let second = ap (λ (t : State). program_in (at_first t x.frames places) header) hart in
    let third = ap (λ (m : read.Memory). program_with (fdes_of m header) places h) (hart_tables parts x.elf.entry) in
    let fourth = ap (λ (o : Option RuntimeRecord). program_with (fdes_of (map read.part_of parts) header) (unwrap_or o no_places) h) (sym has) in
    let fifth = ap (λ (ps : List Part). program_with (fdes_of (map read.part_of parts) header) (unwrap_or x.elf.runtime no_places) (record (initial ps) { pc = x.elf.entry })) (parts_run parts) in
    let last = ap program_at loaded.seen.image in
    subst (λ (r : Result CleanImage Fault). IsOkAnd r (λ j. program_in runtime header ≡ program_of j)) (sym (not_refused file i loaded.is loaded.none))
    (first ∙ second ∙ third ∙ fourth ∙ fifth ∙ last)
