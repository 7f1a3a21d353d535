-- What stands of an image that is loaded.
use Rattle.std.proofs.Common.{◌≡◌, ◌∙◌, refl, sym, ap, subst, ℕ, Bool, true, false, cond, List, [], ◌∷◌, ◌++◌, length, map, drop, replicate, Option, Some, None, Result, Ok}
use Rattle.std.specs.Prelude.{IsOkAnd, flat_map}
use Rattle.std.specs.List.{list_all}
use Rattle.frame_read.specs.Listed.{fde_listed}
use Rattle.std.proofs.lemmas.List.{drop-map, length-replicate}
use Rattle.eh_bytes.specs.declared.segment.Segment.{Segment}
use Rattle.eh_bytes.specs.Memory as read
use Rattle.table_forms.specs.Fault.{Fault, least}
use Rattle.table_forms.specs.Frames.{Frames, frames}
use Rattle.table_forms.proofs.Least.{none_first, none_second}
use Rattle.rv64_isa.specs.State.{State, Part}
use Rattle.rv64_machine.specs.Parts.{part_of}
use Rattle.frame_read.specs.ReadsFrames.{Listing, listing}
use Rattle.elf_image.specs.Clean.{CleanImage, judged}
use Rattle.elf_image.specs.Runnable.{written_at, frames_written, frames_start, table_written, written_faults}
use Rattle.elf_image.proofs.Cleaned.{IsReadFrom, read_from}
use Rattle.elf_image.proofs.Sizes.{small_parts}
use Rattle.frame_walk.specs.Outward.{part_read, tables_of}
use Rattle.raise_core.specs.Reads.{is_readable}
use Rattle.table_check.proofs.Few.{order_sound}
use Rattle.cxa_runtime.specs.Frozen.{frozen, without_bytes}
use Rattle.cxa_runtime.specs.Lasting.{LastsAs}
use Rattle.eh_run.specs.Program.{fdes_in, fdes_of, part_run}
use Rattle.eh_run.proofs.Alike.{Alike, AreAlike, unwritten}
use Rattle.eh_run.proofs.SameFrames.{IsStartFixed, same_frames}
use Rattle.eh_run.proofs.Readable.{all_listed_readable}

-- ---- the machine's segments
abbrev zeroed : Part → Part
zeroed part = record part { bytes = replicate (length part.bytes) 0 }

-- what is frozen tells all but the bytes that may be written
address_kept : (part : Part) (b : Bool) → (cond b (zeroed part) part).address ≡ part.address
address_kept part true = refl
address_kept part false = refl

size_kept : (part : Part) (b : Bool) → length (cond b (zeroed part) part).bytes ≡ length part.bytes
size_kept part true = length-replicate (length part.bytes) 0
size_kept part false = refl

exec_kept : (part : Part) (b : Bool) → (cond b (zeroed part) part).exec ≡ part.exec
exec_kept part true = refl
exec_kept part false = refl

write_kept : (part : Part) (b : Bool) → (cond b (zeroed part) part).write ≡ part.write
write_kept part true = refl
write_kept part false = refl

unwritten_same : (part : Part) → part.write ≡ false → without_bytes part ≡ part
unwritten_same part h = ap (λ (b : Bool). cond b (zeroed part) part) h

alike_part : (x y : Part) → without_bytes x ≡ without_bytes y → Alike (part_read x) (part_read y)
alike_part x y e = record {
  address = sym (address_kept x x.write) ∙ ap (λ (p : Part). p.address) e ∙ address_kept y y.write;
  size = sym (size_kept x x.write) ∙ ap (λ (p : Part). length p.bytes) e ∙ size_kept y y.write;
  exec = sym (exec_kept x x.write) ∙ ap (λ (p : Part). p.exec) e ∙ exec_kept y y.write;
  fixed = λ h.
      let fixed : x.write ≡ false = sym (write_kept x x.write) ∙ ap (λ (p : Part). p.write) e ∙ write_kept y y.write ∙ h in
      ap part_read (sym (unwritten_same x fixed) ∙ e ∙ unwritten_same y h);
}

heads : (x y : Part) (xs ys : List Part) → x ∷ xs ≡ y ∷ ys → x ≡ y
heads x y xs ys e = cc

tails : (x y : Part) (xs ys : List Part) → x ∷ xs ≡ y ∷ ys → xs ≡ ys
tails x y xs ys e = cc

alike_parts : (xs ys : List Part) → map without_bytes xs ≡ map without_bytes ys → AreAlike (map part_read xs) (map part_read ys)
alike_parts [] [] e = tt
alike_parts [] (y ∷ ys) e = absurd cc
alike_parts (x ∷ xs) [] e = absurd cc
alike_parts (x ∷ xs) (y ∷ ys) e = (
  alike_part x y (heads (without_bytes x) (without_bytes y) (map without_bytes xs) (map without_bytes ys) e),
  alike_parts xs ys (tails (without_bytes x) (without_bytes y) (map without_bytes xs) (map without_bytes ys) e),
)

tables_alike : (s t : State) → frozen t.memory ≡ frozen s.memory → AreAlike (tables_of t) (tables_of s)
unfolding frozen
tables_alike s t e =
    alike_parts (drop 2 t.memory) (drop 2 s.memory) (sym (drop-map without_bytes 2 t.memory) ∙ ap (drop 2) e ∙ drop-map without_bytes 2 s.memory)

pub run_back : (memory : read.Memory) → map part_read (map part_run memory) ≡ memory
run_back [] = refl
run_back (p ∷ memory) = ap (λ (ps : read.Memory). p ∷ ps) (run_back memory)

pub parts_run : (parts : List Segment) → map part_of parts ≡ map part_run (map read.part_of parts)
parts_run [] = refl
parts_run (s ∷ parts) = ap (λ (ps : List Part). part_of s ∷ ps) (parts_run parts)

-- ---- its tables
start_unwritten : (memory : read.Memory) (o : Option ℕ) → least (frames_written memory o) ≡ None → IsStartFixed memory o
start_unwritten memory None e = tt
start_unwritten memory (Some a) e = unwritten memory a e

-- nothing of it is written, part by part
record IsUnwritten (i : CleanImage) : Type 0 where
  header : least (written_at i.image.memory i.image.frame_header) ≡ None
  start : least (frames_written i.image.memory (frames_start i.image.memory i.image.frame_header)) ≡ None
  tables : least (flat_map (table_written i.image.memory) i.functions) ≡ None

by_part : (i : CleanImage) → least (written_faults i) ≡ None → IsUnwritten i
unfolding written_faults
by_part i e =
    let a = written_at i.image.memory i.image.frame_header in
    let b = frames_written i.image.memory (frames_start i.image.memory i.image.frame_header) in
    let d = flat_map (table_written i.image.memory) i.functions in
    let first = none_first (a ++ b) d e in
    record { header = none_first a b first; start = none_second a b first; tables = none_second (a ++ b) d e }

-- whatever the program writes, the frames that were read are read again
lasts_alike : (file : List ℕ) (i : CleanImage) (from : IsReadFrom file true i) → IsUnwritten i → (ms : read.Memory) → AreAlike ms i.image.memory →
    (frames ms i.image.frame_header ≡ Ok from.read) × (list_all (is_readable ms) (map fde_listed from.read.fdes) ≡ true)
lasts_alike file i from none ms h = (
  same_frames ms i.image.memory i.image.frame_header h (unwritten i.image.memory i.image.frame_header none.header)
      (start_unwritten i.image.memory (frames_start i.image.memory i.image.frame_header) none.start) ∙ from.frames_read,
  all_listed_readable ms i.image.memory from.read.fdes i.functions h
      (order_sound i.image.memory i.image.frame_header from.read (small_parts file true i.image from.image) from.frames_read).end from.functions_read none.tables,
)

pub image_lasts : (file : List ℕ) (i : CleanImage) (s : State) (l : Listing) → judged file true ≡ Ok i → least (written_faults i) ≡ None → tables_of s ≡ i.image.memory →
    IsOkAnd (frames i.image.memory i.image.frame_header) (λ d. l ≡ listing d) → LastsAs s l (fdes_of (tables_of s) i.image.frame_header)
unfolding fdes_of
image_lasts file i s l is none tables lists = λ t e.
    let from = read_from file true i is in
    let alike : AreAlike (tables_of t) i.image.memory = subst (AreAlike (tables_of t)) tables (tables_alike s t e) in
    let again = lasts_alike file i from (by_part i none) (tables_of t) alike in
    let listed : l ≡ listing from.read = subst (λ (r : Result Frames Fault). IsOkAnd r (λ d. l ≡ listing d)) from.frames_read lists in (
      record {
        header = i.image.frame_header;
        read = from.read;
        reads = again.0;
        lists = listed;
        tables = ap (λ (x : Listing). list_all (is_readable (tables_of t)) x.fdes) listed ∙ again.1;
      },
      sym (ap (λ (m : read.Memory). fdes_in (frames m i.image.frame_header)) tables ∙ ap fdes_in from.frames_read),
    )
