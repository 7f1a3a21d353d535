-- What an image keeps to that may be run: its segments end below the exception slots, and it has a record for the runtime.
use Rattle.std.proofs.Common.{◌≡◌, refl, subst, ℕ, zero, suc, ◌+◌, ◌-◌, ◌≤◌, true, not, List, [], ◌∷◌, ◌++◌, length, take, drop, map, Option, Some, None, Result, Ok, arith, length-append}
use Rattle.std.specs.Prelude.{replicate, is_some, option_map}
use Rattle.std.specs.List.{list_any, AllByRecursion}
use Rattle.std.proofs.lemmas.Bool.Decides.{nat_tests}
use Rattle.std.proofs.lemmas.List.{length-take, length-replicate}
use Rattle.eh_bytes.specs.declared.segment.Segment.{Segment}
use Rattle.eh_bytes.specs.Extent.{Extent, extent_of, extents_of, AreBelow}
use Rattle.eh_bytes.specs.Memory.{Part, part_of}
use Rattle.table_forms.specs.declared.reason.Reason.TheVariants.{SegmentRange, SegmentOverlap, NoFrames, NoRuntime}
use Rattle.table_forms.specs.Fault.{Fault, least, answer, unless, ◌>>=◌}
use Rattle.table_forms.proofs.Least.{none_first, none_second, holds}
use Rattle.elf_image.specs.declared.program.ProgramHeader.{ProgramHeader}
use Rattle.elf_image.specs.Header.{header_faults}
use Rattle.elf_image.specs.Programs.{headers_of, loaded, frames_header, runtime_header}
use Rattle.elf_image.specs.Loads.{part_of as part_in, is_placed, meet, one_faults, load_faults, is_low, low_faults, is_within}
use Rattle.elf_image.specs.Runtime.{has_table, runtime_faults, runtime_of}
use Rattle.elf_image.specs.Elf.{Image, image_of, segment_faults, run_faults, elf}

abbrev Ends : Part → Type 0
Ends part = part.address + length part.bytes ≤ 0x6000_0000

ends : (file : List ℕ) (len before low : ℕ) (h : ProgramHeader) → is_placed len before h ≡ true → is_low low h ≡ true → Ends (part_in file h)
ends file len before low h placed is =
    let room : h.file_size ≤ h.memory_size = grind (arith, nat_tests, placed) in
    let below : h.address + h.memory_size ≤ 0x6000_0000 = grind (arith, nat_tests, is) in
    let taken = length-take h.file_size (drop h.offset file) in
    let zeros : List ℕ = replicate (h.memory_size - h.file_size) 0 in
    let long : length {A = ℕ} zeros ≡ h.memory_size - h.file_size = length-replicate (h.memory_size - h.file_size) 0 in
    omega (arith, room, below, taken, long, length-append (take h.file_size (drop h.offset file)) zeros)

all_end : (file : List ℕ) (len before low : ℕ) (earlier hs : List ProgramHeader) → least (load_faults len before earlier hs) ≡ None → least (low_faults low hs) ≡ None →
    AllByRecursion Ends (map (part_in file) hs)
all_end file len before low earlier [] e f = tt
all_end file len before low earlier (h ∷ hs) e f =
    let one = none_first (one_faults len before earlier h) (load_faults len (before + h.memory_size) (earlier ++ h ∷ []) hs) e in
    let placed = holds (is_placed len before h) SegmentRange h.place (none_first (unless (is_placed len before h) SegmentRange h.place) (unless (not (list_any (meet h) earlier)) SegmentOverlap h.place) one) in
    let is = holds (is_low low h) SegmentRange h.place (none_first (unless (is_low low h) SegmentRange h.place) (low_faults (low + h.memory_size) hs) f) in (
      ends file len before low h placed is,
      all_end file len (before + h.memory_size) (low + h.memory_size) (earlier ++ h ∷ []) hs
          (none_second (one_faults len before earlier h) (load_faults len (before + h.memory_size) (earlier ++ h ∷ []) hs) e)
          (none_second (unless (is_low low h) SegmentRange h.place) (low_faults (low + h.memory_size) hs) f),
    )

-- what an image to run keeps to
pub record MayRun (i : Image) : Type 0 where
  pub below : AllByRecursion Ends i.memory
  pub places : is_some i.runtime ≡ true

same_image : (x y : Image) (r : Result Image Fault) → Ok x ≡ r → r ≡ Ok y → x ≡ y
same_image x y r e f = cc

has_places : (o : Option ProgramHeader) (file : List ℕ) → is_some o ≡ true → is_some (option_map (runtime_of file) o) ≡ true
has_places None file e = e
has_places (Some h) file e = refl

faultless : (file : List ℕ) → least (segment_faults file (headers_of file) ++ run_faults file (headers_of file)) ≡ None → MayRun (image_of file (headers_of file))
unfolding segment_faults run_faults
faultless file none =
    let headers = headers_of file in
    let ls = loaded headers in
    let a = load_faults (length file) 0 [] ls in
    let b = unless (is_within ls (frames_header headers)) NoFrames 0 in
    let c = runtime_faults file ls (runtime_header headers) in
    let low = low_faults 0 ls in
    let table = unless (has_table file ls (frames_header headers)) NoFrames 0 in
    let record_there = unless (is_some (runtime_header headers)) NoRuntime 0 in
    let first = none_first ((a ++ b) ++ c) ((low ++ table) ++ record_there) none in
    let second = none_second ((a ++ b) ++ c) ((low ++ table) ++ record_there) none in record {
      below = all_end file (length file) 0 0 [] ls (none_first a b (none_first (a ++ b) c first)) (none_first low table (none_first (low ++ table) record_there second));
      places = has_places (runtime_header headers) file (holds (is_some (runtime_header headers)) NoRuntime 0 (none_second (low ++ table) record_there second));
    }

pub may_run : (file : List ℕ) (i : Image) → elf file true ≡ Ok i → MayRun i
unfolding elf
may_run file i e = by (least (header_faults file)) (least (segment_faults file (headers_of file) ++ run_faults file (headers_of file))) refl e
  where
    by : (a b : Option Fault) → least (segment_faults file (headers_of file) ++ run_faults file (headers_of file)) ≡ b →
        (answer a true >>= λ _. answer b (image_of file (headers_of file))) ≡ Ok i → MayRun i
    by (Some f) b is e = absurd cc
    by None (Some f) is e = absurd cc
    by None None is e = subst MayRun (same_image (image_of file (headers_of file)) i (Ok i) e refl) (faultless file is)

-- the segments lie below the exception slots
pub are_below : (parts : List Segment) → AllByRecursion Ends (map part_of parts) → AreBelow 0x6000_0000 (extents_of parts)
are_below [] all i s at = absurd cc
are_below (p ∷ parts) all zero s at = subst (λ (x : Extent). x.address + x.size ≤ 0x6000_0000) (some_same (extent_of p) s at) all.0
  where
    some_same : (x y : Extent) → Some x ≡ Some y → x ≡ y
    some_same x y e = cc
are_below (p ∷ parts) all (suc i) s at = are_below parts all.1 i s at
