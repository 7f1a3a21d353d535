-- The program headers of an image that is written are read.
use Rattle.std.proofs.Common.{◌≡◌, ◌+◌, ◌-◌, ◌*◌, ◌<◌, ◌≤◌, ◌^◌, ℕ, suc, Bool, true, false, List, [], ◌∷◌, ◌++◌, length, drop, refl, ap, subst, ◌∙◌, arith, append_assoc, append-nil, length-append, if◌then◌else◌}
use Rattle.std.specs.Prelude.{Option, Some, None, find, option_map, unwrap_or, flat_map}
use Rattle.std.specs.Int.{w64}
use Rattle.std.specs.List.{AllByRecursion, AllZip}
use Rattle.std.proofs.lemmas.Bool.Decides.{nat_tests}
use Rattle.std.proofs.Math.Seq.{drop-append_seam}
use Rattle.eh_bytes.specs.Memory.{Part, Memory, part_with}
use Rattle.elf_image.specs.declared.program.ProgramHeader.{ProgramHeader}
use Rattle.elf_image.specs.Numbers.{field}
use Rattle.elf_image.specs.Programs.{headers_from, headers_of, loaded, frames_header, runtime_header, end_of}
use Rattle.elf_image.specs.Runtime.{has_address}
use Rattle.elf_image.specs.Laid.{Contents, flags_of, loads_from, place_for, stands_at, frames_for, runtime_for, behind_headers, headers_for}
use Rattle.elf_image.specs.Written.{file_header, program_bytes, record_bytes, front_bytes, segments_from, image_bytes}
use Rattle.elf_image.specs.CanWrite.{HasWord, NumbersFit, CanWriteImage}
use Rattle.elf_image.proofs.HeaderWritten.{Begins, offset_read, count_read}
use Rattle.elf_image.proofs.ProgramsWritten.{AreAt, AreLoads, headers_read, headers_size, loads_are, found_behind}
use Rattle.elf_image.proofs.Standing.{IsLaid, all_laid}
use Rattle.elf_image.proofs.FoundWritten.{FoundBoth, found_both}

-- the headers of its segments, of its frames' header and of its record
abbrev pub loads_of : Contents → List ProgramHeader
loads_of c = loads_from 64 (behind_headers (length c.memory + 2) + 24) c.memory

abbrev pub frames_of : Contents → ProgramHeader
frames_of c = frames_for (behind_headers (length c.memory)) (loads_of c) c.frame_header

abbrev pub record_of : Contents → ProgramHeader
record_of c = runtime_for (behind_headers (length c.memory + 1)) (behind_headers (length c.memory + 2))

loads_length : (place from : ℕ) (memory : Memory) → length (loads_from place from memory) ≡ length memory
loads_length place from [] = refl
loads_length place from (part ∷ memory) = ap suc (loads_length (place + 56) (place_for from part.address + length part.bytes) memory)

headers_length : (c : Contents) → length (headers_for c) ≡ length c.memory + 2
headers_length c = length-append (loads_of c) (frames_of c ∷ record_of c ∷ []) ∙ ap (λ n. n + 2) (loads_length 64 (behind_headers (length c.memory + 2) + 24) c.memory)

-- the header of the file and the program headers
abbrev pub head_bytes : Contents → List ℕ
head_bytes c = file_header c.entry (length (headers_for c)) ++ flat_map program_bytes (headers_for c)

pub head_length : (c : Contents) → length (head_bytes c) ≡ behind_headers (length c.memory + 2)
head_length c =
    let header = file_header c.entry (length (headers_for c)) in
    length-append header (flat_map program_bytes (headers_for c)) ∙ ap (λ n. 64 + n) (headers_size (headers_for c)) ∙ ap (λ n. 64 + 56 * n) (headers_length c)

pub front_length : (c : Contents) → length (front_bytes c) ≡ behind_headers (length c.memory + 2) + 24
front_length c = length-append (head_bytes c) (record_bytes c.runtime) ∙ ap (λ n. n + 24) (head_length c)

abbrev pub segments_of : Contents → List ℕ
segments_of c = segments_from (length (front_bytes c)) c.memory

pub whole : (c : Contents) → image_bytes c ≡ front_bytes c ++ segments_of c
unfolding image_bytes
whole c = refl

-- each segment stands where its header says
pub image_laid : (c : Contents) → AllZip (IsLaid (image_bytes c)) c.memory (loads_of c)
image_laid c =
    all_laid (image_bytes c) (front_bytes c) 64 (behind_headers (length c.memory + 2) + 24) c.memory (front_length c)
    (whole c ∙ ap (λ n. front_bytes c ++ segments_from n c.memory) (front_length c))

pub begins : (c : Contents) → NumbersFit c → CanWriteImage c →
    Begins (image_bytes c) c.entry (length (headers_for c)) (flat_map program_bytes (headers_for c) ++ (record_bytes c.runtime ++ segments_of c))
begins c fit can =
    let header = file_header c.entry (length (headers_for c)) in
    let programs = flat_map program_bytes (headers_for c) in
    let record_ = record_bytes c.runtime in
    let few = can.few in
    let count = headers_length c in
    record {
      is = whole c ∙ append_assoc (header ++ programs) record_ (segments_of c) ∙ append_assoc header programs (record_ ++ segments_of c);
      word = fit.entry;
      some = omega (arith, count);
      few = omega (arith, count, few);
      long = omega (arith, headers_size (headers_for c), length-append programs (record_ ++ segments_of c));
    }

-- the fields of the headers have the ranges of their types
loads_at : (file : List ℕ) (place from : ℕ) (memory : Memory) (others : List ProgramHeader) → length file < 2 ^ 64 → AllZip (IsLaid file) memory (loads_from place from memory) →
    AllByRecursion HasWord memory → AreAt (place + 56 * length memory) others → AreAt place (loads_from place from memory ++ others)
loads_at file place from [] others short laid fit at = subst (λ p. AreAt p others) (omega arith) at
loads_at file place from (part ∷ memory) others short laid fit at =
    let inside = laid.0.inside in
    let next : place + 56 * length (part ∷ memory) ≡ place + 56 + 56 * length memory = omega arith in (
      refl,
      record {
        kind = omega arith;
        flags = flags_small part;
        offset = omega (arith, inside, short);
        address = fit.0;
        file_size = omega (arith, inside, short);
        memory_size = omega (arith, inside, short);
      },
      loads_at file (place + 56) (place_for from part.address + length part.bytes) memory others short laid.1 fit.1 (subst (λ p. AreAt p others) next at),
    )
  where
    small : (w e : Bool) → 4 + (if w then 2 else 0) + (if e then 1 else 0) < 2 ^ 32
    small true true = omega arith
    small true false = omega arith
    small false true = omega arith
    small false false = omega arith

    flags_small : (part : Part) → flags_of part < 2 ^ 32
    flags_small part = small part.write part.exec

stands_small : (file : List ℕ) (memory : Memory) (hs : List ProgramHeader) (a : ℕ) → length file < 2 ^ 64 → AllZip (IsLaid file) memory hs → ((stands_at hs a).0 < 2 ^ 64) × ((stands_at hs a).1 < 2 ^ 64)
stands_small file memory hs a short laid = by (part_with memory a) (find (has_address a) hs) (found_both file memory hs a laid)
  where
    by : (p : Option Part) (f : Option ProgramHeader) → FoundBoth file a p f →
        ((unwrap_or {T = ℕ × ℕ} (option_map (λ load. (load.offset + (a - load.address), end_of load - a)) f) (0, 0)).0 < 2 ^ 64) ×
        ((unwrap_or {T = ℕ × ℕ} (option_map (λ load. (load.offset + (a - load.address), end_of load - a)) f) (0, 0)).1 < 2 ^ 64)
    by None None both = (omega arith, omega arith)
    by None (Some h) both = absurd both
    by (Some part) None both = absurd both
    by (Some part) (Some h) both =
        let has = both.1 in
        let inside = both.0.inside in
        let address = both.0.address in
        let size = both.0.memory_size in
        let first : part.address ≤ a = grind (arith, nat_tests, has) in
        let last : a - part.address < length part.bytes = grind (arith, nat_tests, has) in
        (omega (arith, inside, address, last, short), omega (arith, inside, address, size, first, short))

headers_at : (c : Contents) → NumbersFit c → CanWriteImage c → length (image_bytes c) < 2 ^ 64 → AreAt 64 (headers_for c)
headers_at c fit can short =
    let few = can.few in
    let small = stands_small (image_bytes c) c.memory (loads_of c) c.frame_header short (image_laid c) in
    loads_at (image_bytes c) 64 (behind_headers (length c.memory + 2) + 24) c.memory (frames_of c ∷ record_of c ∷ []) short (image_laid c) fit.addresses (
      refl,
      record { kind = omega arith; flags = omega arith; offset = small.0; address = fit.frame_header; file_size = small.1; memory_size = small.1 },
      (omega arith, record { kind = omega arith; flags = omega arith; offset = omega (arith, few); address = omega arith; file_size = omega arith; memory_size = omega arith }, tt),
    )

pub headers_are : (c : Contents) → NumbersFit c → CanWriteImage c → length (image_bytes c) < 2 ^ 64 → headers_of (image_bytes c) ≡ headers_for c
unfolding headers_of
headers_are c fit can short =
    let file = image_bytes c in
    let hs = headers_for c in
    let rest = record_bytes c.runtime ++ segments_of c in
    let b = begins c fit can in
    let here : drop 64 file ≡ flat_map program_bytes hs ++ rest = ap (drop 64) b.is ∙ drop-append_seam (file_header c.entry (length hs)) (flat_map program_bytes hs ++ rest) in
    ap (λ o. headers_from (unwrap_or o 0) file (field w64 file 32)) (count_read file c.entry (length hs) (flat_map program_bytes hs ++ rest) b) ∙
    ap (λ o. headers_from (length hs) file (unwrap_or o 0)) (offset_read file c.entry (length hs) (flat_map program_bytes hs ++ rest) b) ∙
    headers_read file 64 hs rest (headers_at c fit can short) here

-- the headers of each kind among them
all_loads : (file : List ℕ) (memory : Memory) (hs : List ProgramHeader) → AllZip (IsLaid file) memory hs → AreLoads hs
all_loads file [] [] laid = tt
all_loads file [] (h ∷ hs) laid = absurd laid
all_loads file (part ∷ memory) [] laid = absurd laid
all_loads file (part ∷ memory) (h ∷ hs) laid = (laid.0.load, all_loads file memory hs laid.1)

are_loads : (c : Contents) → AreLoads (loads_of c)
are_loads c = all_loads (image_bytes c) c.memory (loads_of c) (image_laid c)

pub loads_found : (c : Contents) → loaded (headers_for c) ≡ loads_of c
loads_found c = loads_are (loads_of c) (frames_of c ∷ record_of c ∷ []) (are_loads c) ∙ append-nil (loads_of c)

pub frames_found : (c : Contents) → frames_header (headers_for c) ≡ Some (frames_of c)
frames_found c = found_behind 0x6474e550 (loads_of c) (frames_of c ∷ record_of c ∷ []) (omega arith) (are_loads c)

pub record_found : (c : Contents) → runtime_header (headers_for c) ≡ Some (record_of c)
record_found c = found_behind 0x6e485831 (loads_of c) (frames_of c ∷ record_of c ∷ []) (omega arith) (are_loads c)
