-- An image that is written stands for its parts.
use Rattle.std.proofs.Common.{◌≡◌, ◌+◌, ◌%◌, ◌<◌, ◌≤◌, ◌^◌, ◌&&◌, ◌==◌, ℕ, suc, Bool, true, false, nat_le, List, [], ◌∷◌, ◌++◌, length, drop, map, refl, ap, sym, subst, ◌∙◌, arith, append_assoc, length-append}
use Rattle.std.specs.Prelude.{Option, Some, None, is_some, IsOkAnd, option_map, unwrap_or, flat_map, not}
use Rattle.std.specs.Int.{w64}
use Rattle.std.specs.List.{AllByRecursion, AllZip, list_any}
use Rattle.std.proofs.lemmas.Bool.Decides.{nat_tests}
use Rattle.std.proofs.Math.Seq.{drop-append_seam}
use Rattle.eh_bytes.specs.Memory.{Part, Memory, part_with, is_code}
use Rattle.eh_bytes.specs.Memory as memories
use Rattle.eh_bytes.specs.declared.segment.Segment.{Segment}
use Rattle.eh_bytes.specs.Extent.{extents_of, AreApart, AreInRange}
use Rattle.table_forms.specs.declared.reason.Reason.{Reason}
use Rattle.table_forms.specs.declared.reason.Reason.TheVariants.{NoFrames, NoRuntime, Runtime}
use Rattle.table_forms.specs.Fault.{Fault, least, unless, joined}
use Rattle.table_forms.proofs.Least.{least-append}
use Rattle.elf_image.specs.declared.program.ProgramHeader.{ProgramHeader}
use Rattle.elf_image.specs.Numbers.{field}
use Rattle.elf_image.specs.Programs.{headers_of, frames_header, runtime_header}
use Rattle.elf_image.specs.Loads.{part_of, load_faults, low_faults, is_within}
use Rattle.elf_image.specs.Runtime.{is_stub, has_stub, is_runtime, runtime_faults, has_table, runtime_of}
use Rattle.elf_image.specs.Elf.{image_of, segment_faults, run_faults, faults_to_run}
use Rattle.elf_image.specs.Laid.{Contents, behind_headers, headers_for}
use Rattle.elf_image.specs.Written.{words, program_bytes, record_bytes, front_bytes, image_bytes}
use Rattle.elf_image.specs.CanWrite.{NumbersFit, AreRising, CanWriteImage, CanRunImage}
use Rattle.elf_image.specs.Stands.{unplaced, IsPaged, ImageStands, WritesImage}
use Rattle.elf_image.proofs.FieldsRead.{later, word_read}
use Rattle.elf_image.proofs.HeaderWritten.{entry_read, header_is}
use Rattle.elf_image.proofs.Standing.{IsLaid}
use Rattle.elf_image.proofs.Sound.{extent_in, extents_in}
use Rattle.elf_image.proofs.LoadsWritten.{memory_read, pages_read, loads_faultless, low_faultless}
use Rattle.elf_image.proofs.FoundWritten.{code_same, frames_within, bare_same}
use Rattle.elf_image.proofs.Whole.{gives_image}
use Rattle.elf_image.proofs.ImageHeaders.{loads_of, frames_of, record_of, head_bytes, head_length, front_length, segments_of, whole, image_laid, begins, headers_are, loads_found, frames_found, record_found}

-- the record's words
record_stands : (c : Contents) → drop (behind_headers (length c.memory + 2)) (image_bytes c) ≡ record_bytes c.runtime ++ segments_of c
record_stands c =
    ap (λ n. drop n (image_bytes c)) (sym (head_length c)) ∙ ap (drop (length (head_bytes c))) (whole c ∙ append_assoc (head_bytes c) (record_bytes c.runtime) (segments_of c)) ∙
    drop-append_seam (head_bytes c) (record_bytes c.runtime ++ segments_of c)

format_read : (c : Contents) → field w64 (image_bytes c) (behind_headers (length c.memory + 2)) ≡ 1
format_read c =
    ap (λ o. unwrap_or o 0) (word_read (image_bytes c) (behind_headers (length c.memory + 2)) 1 (words (c.runtime.terminate ∷ c.runtime.bad_exception ∷ []) ++ segments_of c) (omega arith) (record_stands c))

terminate_read : (c : Contents) → NumbersFit c → field w64 (image_bytes c) (behind_headers (length c.memory + 2) + 8) ≡ c.runtime.terminate
terminate_read c fit =
    let p = behind_headers (length c.memory + 2) in
    ap (λ o. unwrap_or o 0) (word_read (image_bytes c) (p + 8) c.runtime.terminate (words (c.runtime.bad_exception ∷ []) ++ segments_of c) fit.terminate
    (later (image_bytes c) p 8 (record_bytes c.runtime ++ segments_of c) (record_stands c)))

bad_exception_read : (c : Contents) → NumbersFit c → field w64 (image_bytes c) (behind_headers (length c.memory + 2) + 16) ≡ c.runtime.bad_exception
bad_exception_read c fit =
    let p = behind_headers (length c.memory + 2) in
    ap (λ o. unwrap_or o 0) (word_read (image_bytes c) (p + 16) c.runtime.bad_exception (segments_of c) fit.bad_exception
    (later (image_bytes c) p 16 (record_bytes c.runtime ++ segments_of c) (record_stands c)))

stub_is : (c : Contents) → CanWriteImage c → has_stub (loads_of c) c.runtime.terminate ≡ true
stub_is c can =
    let aligned = can.aligned in
    let four : (c.runtime.terminate % 4 == 0) ≡ true = grind (arith, nat_tests, aligned) in
    ap (λ b. b && list_any (is_stub c.runtime.terminate) (loads_of c)) four ∙ code_same (image_bytes c) c.memory (loads_of c) c.runtime.terminate (image_laid c) ∙ can.code

runtime_is : (c : Contents) → NumbersFit c → CanWriteImage c → is_runtime (image_bytes c) (loads_of c) (record_of c) ≡ true
runtime_is c fit can =
    let file = image_bytes c in
    let p = behind_headers (length c.memory + 2) in
    let long = ap length (whole c) ∙ length-append (front_bytes c) (segments_of c) in
    let front = front_length c in
    let inside : nat_le (p + 24) (length file) ≡ true = grind (arith, nat_tests, long, front) in
    ap (λ b. b && (24 == 24) && (field w64 file p == 1) && has_stub (loads_of c) (field w64 file (p + 8))) inside ∙
    ap (λ n. (n == 1) && has_stub (loads_of c) (field w64 file (p + 8))) (format_read c) ∙ ap (has_stub (loads_of c)) (terminate_read c fit) ∙ stub_is c can

-- nothing is refused of two lists
none_both : (a b : List Fault) → least a ≡ None → least b ≡ None → least (a ++ b) ≡ None
none_both a b e f = least-append a b ∙ ap (λ o. joined o (least b)) e ∙ f

none_of : (a : List Fault) → a ≡ [] → least a ≡ None
unfolding least
none_of a e = ap least e

none_unless : (b : Bool) (reason : Reason) (p : ℕ) → b ≡ true → least (unless b reason p) ≡ None
unfolding least
none_unless b reason p e = ap (λ x. least (unless x reason p)) e

-- what a memory has that is apart, and in the address space
pub record IsSpread (memory : Memory) : Type 0 where
  pub apart : AreApart (map extent_in memory)
  pub ends : AllByRecursion (λ part. part.address + length part.bytes ≤ 2 ^ 64) memory

ends_all : (memory : Memory) → AreInRange (map extent_in memory) → AllByRecursion (λ part. part.address + length part.bytes ≤ 2 ^ 64) memory
ends_all [] range = tt
ends_all (part ∷ memory) range = ((range 0 (extent_in part) refl).0, ends_all memory (λ i s at. range (suc i) s at))

pub spread_of : (parts : List Segment) → AreApart (extents_of parts) → AreInRange (extents_of parts) → IsSpread (map memories.part_of parts)
spread_of parts apart range = record {
  apart = subst AreApart (extents_in parts) apart;
  ends = ends_all (map memories.part_of parts) (subst AreInRange (extents_in parts) range);
}

segments_faultless : (c : Contents) → NumbersFit c → CanWriteImage c → IsSpread c.memory → least (segment_faults (image_bytes c) (headers_for c)) ≡ None
unfolding segment_faults
segments_faultless c fit can spread =
    let file = image_bytes c in
    let hs = headers_for c in
    let ls = loads_of c in
    let laid = image_laid c in
    ap (λ xs. least (load_faults (length file) 0 [] xs ++ unless (is_within xs (frames_header hs)) NoFrames 0 ++ runtime_faults file xs (runtime_header hs))) (loads_found c) ∙
    ap (λ f. least (load_faults (length file) 0 [] ls ++ unless (is_within ls f) NoFrames 0 ++ runtime_faults file ls (runtime_header hs))) (frames_found c) ∙
    ap (λ r. least (load_faults (length file) 0 [] ls ++ unless (is_within ls (Some (frames_of c))) NoFrames 0 ++ runtime_faults file ls r)) (record_found c) ∙
    none_both (load_faults (length file) 0 [] ls ++ unless (is_within ls (Some (frames_of c))) NoFrames 0) (runtime_faults file ls (Some (record_of c)))
    (none_both (load_faults (length file) 0 [] ls) (unless (is_within ls (Some (frames_of c))) NoFrames 0) (loads_faultless file c.memory ls laid spread.ends spread.apart can.small)
    (none_unless (is_within ls (Some (frames_of c))) NoFrames 0 (frames_within file (behind_headers (length c.memory)) c.memory ls c.frame_header laid can.frames)))
    (none_unless (is_runtime file ls (record_of c)) Runtime (record_of c).place (runtime_is c fit can))

table_is : (c : Contents) → CanRunImage c → has_table (image_bytes c) (loads_of c) (Some (frames_of c)) ≡ true
table_is c can = ap not (bare_same (image_bytes c) c.memory (loads_of c) c.frame_header (image_laid c) ∙ can.table)

run_faultless : (c : Contents) → CanRunImage c → least (run_faults (image_bytes c) (headers_for c)) ≡ None
unfolding run_faults
run_faultless c can =
    let file = image_bytes c in
    let hs = headers_for c in
    let ls = loads_of c in
    ap (λ xs. least (low_faults 0 xs ++ unless (has_table file xs (frames_header hs)) NoFrames 0 ++ unless (is_some (runtime_header hs)) NoRuntime 0)) (loads_found c) ∙
    ap (λ f. least (low_faults 0 ls ++ unless (has_table file ls f) NoFrames 0 ++ unless (is_some (runtime_header hs)) NoRuntime 0)) (frames_found c) ∙
    ap (λ (r : Option ProgramHeader). least (low_faults 0 ls ++ unless (has_table file ls (Some (frames_of c))) NoFrames 0 ++ unless (is_some r) NoRuntime 0)) (record_found c) ∙
    none_both (low_faults 0 ls ++ unless (has_table file ls (Some (frames_of c))) NoFrames 0) []
    (none_both (low_faults 0 ls) (unless (has_table file ls (Some (frames_of c))) NoFrames 0) (none_of (low_faults 0 ls) (low_faultless file c.memory ls 0 (image_laid c) can.low (let s = can.small in omega (arith, s))))
    (none_unless (has_table file ls (Some (frames_of c))) NoFrames 0 (table_is c can))) (none_of [] refl)

-- the image that is read
rising_read : (file : List ℕ) (memory : Memory) (hs : List ProgramHeader) → AllZip (IsLaid file) memory hs → AreRising memory → AreRising (map (part_of file) hs)
rising_read file [] [] laid rising = tt
rising_read file [] (h ∷ hs) laid rising = absurd laid
rising_read file (part ∷ memory) [] laid rising = absurd laid
rising_read file (part ∷ []) (h ∷ []) laid rising = tt
rising_read file (part ∷ []) (h ∷ k ∷ hs) laid rising = absurd laid.1
rising_read file (part ∷ next ∷ memory) (h ∷ []) laid rising = absurd laid.1
rising_read file (part ∷ next ∷ memory) (h ∷ k ∷ hs) laid rising =
    let a = laid.0.address in let b = laid.1.0.address in let c = rising.0 in (omega (arith, a, b, c), rising_read file (next ∷ memory) (k ∷ hs) laid.1 rising.1)

pub image_stands : (c : Contents) → NumbersFit c → CanWriteImage c → ImageStands c (image_of (image_bytes c) (headers_for c))
image_stands c fit can =
    let file = image_bytes c in
    let laid = image_laid c in
    let rest = flat_map program_bytes (headers_for c) ++ (record_bytes c.runtime ++ segments_of c) in
    record {
      entry = ap (λ o. unwrap_or o 0) (entry_read file c.entry (length (headers_for c)) rest (begins c fit can));
      memory = ap (λ xs. map unplaced (map (part_of file) xs)) (loads_found c) ∙ memory_read file c.memory (loads_of c) laid;
      frame_header = ap (λ (f : Option ProgramHeader). unwrap_or (option_map (λ h. h.address) f) 0) (frames_found c);
      runtime = ap (option_map (runtime_of file)) (record_found c) ∙ ap (λ t. Some (record { terminate = t; bad_exception = field w64 file (behind_headers (length c.memory + 2) + 16) })) (terminate_read c fit) ∙
          ap (λ b. Some (record { terminate = c.runtime.terminate; bad_exception = b })) (bad_exception_read c fit);
      rising = subst (λ xs. AreRising (map (part_of file) xs)) (sym (loads_found c)) (rising_read file c.memory (loads_of c) laid can.rising);
      pages = subst (λ xs. AllByRecursion IsPaged (map (part_of file) xs)) (sym (loads_found c)) (pages_read file c.memory (loads_of c) laid);
    }

by_headers : (c : Contents) (run : Bool) → NumbersFit c → CanWriteImage c → length (image_bytes c) < 2 ^ 64 → least (segment_faults (image_bytes c) (headers_for c) ++ faults_to_run run (image_bytes c) (headers_for c)) ≡ None →
    WritesImage c run (image_bytes c)
by_headers c run fit can short none =
    let file = image_bytes c in
    let are = headers_are c fit can short in
    let rest = flat_map program_bytes (headers_for c) ++ (record_bytes c.runtime ++ segments_of c) in
    let header = sym (header_is file c.entry (length (headers_for c)) rest (begins c fit can)) in
    let segments = sym (ap (λ hs. least (segment_faults file hs ++ faults_to_run run file hs)) are ∙ none) in
    let read = gives_image file run (image_of file (headers_of file)) header segments refl in
    subst (λ r. IsOkAnd r (ImageStands c)) (sym read) (subst (λ hs. ImageStands c (image_of file hs)) (sym are) (image_stands c fit can))

pub writes_image : (c : Contents) → NumbersFit c → IsSpread c.memory → length (image_bytes c) < 2 ^ 64 → CanWriteImage c → WritesImage c false (image_bytes c)
writes_image c fit spread short can =
    by_headers c false fit can short (none_both (segment_faults (image_bytes c) (headers_for c)) [] (segments_faultless c fit can spread) (none_of [] refl))

pub writes_to_run : (c : Contents) → NumbersFit c → IsSpread c.memory → length (image_bytes c) < 2 ^ 64 → CanWriteImage c → CanRunImage c → WritesImage c true (image_bytes c)
writes_to_run c fit spread short can runs =
    by_headers c true fit can short
    (none_both (segment_faults (image_bytes c) (headers_for c)) (run_faults (image_bytes c) (headers_for c)) (segments_faultless c fit can spread) (run_faultless c runs))
