-- What packing a clean image answers, by what code finds of it.
use Rattle.std.proofs.Common.{◌≡◌, ℕ, true, List, [], map, Option, Some, None, Result, Ok, Err, refl, ap, sym, subst, ◌∙◌}
use Rattle.std.specs.Prelude.{IsErrAnd}
use Rattle.eh_bytes.specs.Memory.{memory_of}
use Rattle.table_forms.specs.Fault.{Fault, ◌>>=◌, least, answer}
use Rattle.table_forms.specs.Frames.{Frames, frames}
use Rattle.elf_image.specs.declared.error.ImageError.{ImageError}
use Rattle.elf_image.specs.declared.error.ImageError.TheVariants as errors
use Rattle.elf_image.specs.Programs.{headers_of, loaded}
use Rattle.elf_image.specs.Reports.{reported}
use Rattle.elf_image.specs.declared.program.ProgramHeader.{ProgramHeader}
use Rattle.elf_image.specs.Elf.{Image}
use Rattle.elf_image.specs.Clean.{Function, CleanImage, clean}
use Rattle.frame_read.specs.declared.listed.Fde.{Fde}
use Rattle.table_check.specs.declared.clean.CleanImage as code
use Rattle.table_check.specs.Checks.{IsSeen, IsReported}
use Rattle.lsda_pack.specs.declared.placing.Placing.{Placing}
use Rattle.lsda_pack.specs.Gathered.{others_by, parts_by}
use Rattle.lsda_pack.specs.PackedImage.{Packing, packing_of, packing}
use Rattle.lsda_pack.specs.Placed.{Placed, tables_placed}
use Rattle.lsda_pack.specs.Placings.{AreFunctions, ArePlacings, placed_all}
use Rattle.lsda_pack.specs.Reaches.{part_taken, extent_taken, shared_taken}
use Rattle.lsda_pack.specs.SharedFile.{file_faults}
use Rattle.lsda_pack.specs.SharedTables.{file_parts, others_in, shared_faults}
use Rattle.lsda_pack.proofs.CleanParts.{clean_parts}
use Rattle.lsda_pack.proofs.Gathers.{tables_are, others_are}
use Rattle.lsda_pack.proofs.PackingKept.{when_alone, when_apart, when_clean, packing_steps}
use Rattle.lsda_pack.proofs.ReachesApart.{taken_shared}

-- ---- refusals
reports : (f : Fault) (e : ImageError) (read : Result Packing Fault) → read ≡ Err f → e ≡ reported f → IsReported e read
reports f e read refused is = subst (λ x. IsReported x read) (sym is) (subst (λ x. IsErrAnd x (λ g. reported f ≡ reported g)) (sym refused) refl)

not_clean : (file : List ℕ) (f : Fault) → clean file ≡ Err f → packing file ≡ Err f
not_clean file f read = packing_steps file ∙ ap (λ r. r >>= when_clean file) read

pub reports_clean : (file : List ℕ) (e : ImageError) → IsReported e (clean file) → IsReported e (packing file)
reports_clean file errors.NoMemory told = tt
reports_clean file (errors.Refused reason place location other) told = by (clean file) refl told
  where
    by : (r : Result CleanImage Fault) → clean file ≡ r → IsReported (errors.Refused reason place location other) r → IsReported (errors.Refused reason place location other) (packing file)
    by (Ok i) read told = absurd told
    by (Err f) read told = reports f (errors.Refused reason place location other) (packing file) (not_clean file f read) told

from_clean : (file : List ℕ) (i : CleanImage) → clean file ≡ Ok i → packing file ≡ when_clean file i
from_clean file i read = packing_steps file ∙ ap (λ r. r >>= when_clean file) read

pub file_shared : (file : List ℕ) (i : CleanImage) (e : ImageError) (f : Fault) → clean file ≡ Ok i → Some f ≡ least (file_faults [] (loaded (headers_of file))) → e ≡ reported f → IsReported e (packing file)
file_shared file i e f read shared told =
    reports f e (packing file) (from_clean file i read ∙ ap (λ (o : Option Fault). answer o true >>= when_apart file i) (sym shared)) told

from_apart : (file : List ℕ) (i : CleanImage) → clean file ≡ Ok i → None ≡ least (file_faults [] (loaded (headers_of file))) → packing file ≡ when_apart file i true
from_apart file i read apart = from_clean file i read ∙ ap (λ (o : Option Fault). answer o true >>= when_apart file i) (sym apart)

pub table_shared : (file : List ℕ) (i : CleanImage) (e : ImageError) (f : Fault) → clean file ≡ Ok i → None ≡ least (file_faults [] (loaded (headers_of file))) →
    Some f ≡ least (shared_faults file i (tables_placed file i)) → e ≡ reported f → IsReported e (packing file)
table_shared file i e f read apart shared told =
    reports f e (packing file) (from_apart file i read apart ∙ ap (λ (o : Option Fault). answer o true >>= when_alone file i) (sym shared)) told

-- ---- and else the packed file
pub all_packed : (file : List ℕ) (i : CleanImage) (p : Packing) → clean file ≡ Ok i → None ≡ least (file_faults [] (loaded (headers_of file))) →
    None ≡ least (shared_faults file i (tables_placed file i)) → p ≡ packing_of file (tables_placed file i) → packing file ≡ Ok p
all_packed file i p read apart alone is =
    from_apart file i read apart ∙ ap (λ (o : Option Fault). answer o true >>= when_alone file i) (sym alone) ∙ ap (λ (x : Packing). Ok x) (sym is)

-- ---- as code has the image
memory_seen : (x : code.CleanImage) (i : CleanImage) → IsSeen x i → memory_of x.elf.segments ≡ i.image.memory
memory_seen x i seen = ap (λ (y : Image). y.memory) seen.image

pub functions_seen : (file : List ℕ) (x : code.CleanImage) (i : CleanImage) → clean file ≡ Ok i → IsSeen x i → AreFunctions (memory_of x.elf.segments) x.order.items i.functions
functions_seen file x i read seen =
    subst (λ m. AreFunctions m x.order.items i.functions) (sym (memory_seen x i seen))
    (subst (λ fs. AreFunctions i.image.memory fs i.functions) (sym seen.fdes) (clean_parts file i read).functions)

tables_named : (file : List ℕ) (i : CleanImage) → placed_all i.image.memory (loaded (headers_of file)) i.functions ≡ tables_placed file i
unfolding tables_placed
tables_named file i = refl

tables_seen : (file : List ℕ) (x : code.CleanImage) (i : CleanImage) → IsSeen x i → placed_all (memory_of x.elf.segments) (loaded (headers_of file)) i.functions ≡ tables_placed file i
tables_seen file x i seen = ap (λ m. placed_all m (loaded (headers_of file)) i.functions) (memory_seen x i seen) ∙ tables_named file i

-- the placed tables are those of the image
pub placings_seen : (file : List ℕ) (x : code.CleanImage) (i : CleanImage) (hs : List ProgramHeader) (fs : List Fde) (ps qs : List Placing) → clean file ≡ Ok i → IsSeen x i →
    hs ≡ loaded (headers_of file) → fs ≡ x.order.items → qs ≡ ps →
    ((gs : List Function) → AreFunctions (memory_of x.elf.segments) fs gs → ArePlacings (memory_of x.elf.segments) ps (placed_all (memory_of x.elf.segments) hs gs)) →
    ArePlacings (memory_of x.elf.segments) qs (tables_placed file i)
placings_seen file x i hs fs ps qs read seen loads order same are =
    let m = memory_of x.elf.segments in
    let functions = subst (λ gs. AreFunctions m gs i.functions) (sym order) (functions_seen file x i read seen) in
    subst (λ xs. ArePlacings m xs (tables_placed file i)) (sym same)
    (subst (ArePlacings m ps) (ap (λ ls. placed_all m ls i.functions) loads ∙ tables_seen file x i seen) (are i.functions functions))

taken_seen : (file : List ℕ) (x : code.CleanImage) (i : CleanImage) (ps : List Placing) (ts : List Placed) → IsSeen x i → ArePlacings (memory_of x.elf.segments) ps ts →
    shared_taken (map (λ p. p.taken) ps) (others_by (memory_of x.elf.segments) x.elf.frame_header ps) (map part_taken (parts_by (headers_of file))) ≡ shared_faults file i ts
taken_seen file x i ps ts seen are =
    let parts = map part_taken (file_parts file) in
    let taken = map (λ (p : Placing). p.taken) ps in
    ap (λ (y : Image). shared_taken taken (others_by y.memory y.frame_header ps) parts) seen.image ∙
    ap (λ o. shared_taken taken o parts) (others_are i ps ts (subst (λ m. ArePlacings m ps ts) (memory_seen x i seen) are)) ∙
    ap (λ t. shared_taken t (map extent_taken (others_in i ts)) parts) (tables_are (memory_of x.elf.segments) ps ts are) ∙ taken_shared file i ts

-- so what is refused of them is what is refused of its tables
pub shared_seen : (file : List ℕ) (x : code.CleanImage) (i : CleanImage) (ps : List Placing) (hs : List ProgramHeader) (first : Option Fault) → clean file ≡ Ok i → IsSeen x i →
    ArePlacings (memory_of x.elf.segments) ps (tables_placed file i) → hs ≡ headers_of file →
    ((read : Frames) → frames (memory_of x.elf.segments) x.elf.frame_header ≡ Ok read → first ≡
    least (shared_taken (map (λ p. p.taken) ps) (others_by (memory_of x.elf.segments) x.elf.frame_header ps) (map part_taken (parts_by hs)))) →
    first ≡ least (shared_faults file i (tables_placed file i))
shared_seen file x i ps hs first read seen are headers refused =
    let m = memory_of x.elf.segments in
    let parts = clean_parts file i read in
    let known : frames m x.elf.frame_header ≡ Ok parts.read = ap (λ (y : Image). frames y.memory y.frame_header) seen.image ∙ parts.frames_read in
    refused parts.read known ∙
    ap (λ ks. least (shared_taken (map (λ (p : Placing). p.taken) ps) (others_by m x.elf.frame_header ps) (map part_taken (parts_by ks)))) headers ∙
    ap least (taken_seen file x i ps (tables_placed file i) seen are)
