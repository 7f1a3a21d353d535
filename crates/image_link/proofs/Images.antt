-- The bounds of linked images.
use Rattle.std.proofs.Common.{◌≡◌, ◌≤◌, ℕ, ◌+◌, ◌*◌, [], ◌∷◌, ◌++◌, length, length-append, refl, sym, subst, arith}
use Rattle.std.specs.Prelude.{flat_map, sum_by, replicate}
use Rattle.std.proofs.lemmas.List.{length-replicate}
use Rattle.std.proofs.lemmas.List.Sums.{sum_by-cons, sum_by-append}
use Rattle.eh_bytes.specs.Listed.{ListedUnit}
use Rattle.eh_bytes.specs.Memory.{Memory}
use Rattle.eh_bytes.specs.Spelling.{uleb_spelling, uleb_spelling_within, sleb_spelling, sleb_spelling_within}
use Rattle.eh_write.specs.Written.{base_offset, table_bytes}
use Rattle.eh_write.specs.WrittenFrames.{fde_body, fde_bytes}
use Rattle.elf_image.specs.declared.program.ProgramHeader.{ProgramHeader}
use Rattle.elf_image.specs.CanWrite.{size_of}
use Rattle.elf_image.specs.Laid.{padding, place_for, headers_for}
use Rattle.elf_image.specs.Written.{file_header, program_bytes, record_bytes, front_bytes, segments_from, image_bytes}
use Rattle.machine_forms.specs.Emitted.{emitted_stubs}
use Rattle.image_forms.specs.Placed.{code_at, unit_at, all_code, names_at, placed_from, all_functions}
use Rattle.image_forms.specs.Room.{function_room, symbols_room}
use Rattle.image_forms.specs.Records.{names_bytes}
use Rattle.image_forms.specs.Tables.{header_rows}
use Rattle.image_forms.specs.Linked.{unit_names, tables_at, unit_tables, unit_frames, frames_at, frames_written, header_at, header_written, constant_bytes, contents_for, linked}
use Rattle.image_forms.specs.Linkable.{IsLinkable}
use Rattle.image_link.specs.Laws.{ImagesAreSmall}
use Rattle.image_link.proofs.Bounds.{flat_length, filled_length, code_length, globals_length, records_length, types_length, frames_length, header_length, functions_length, placed_sum}

-- each segment stands less than a page behind the one before
segments_length : (from : ℕ) (memory : Memory) → length (segments_from from memory) ≤ 4095 * length memory + size_of memory
segments_length from [] = omega arith
segments_length from (part ∷ memory) =
    let gap = padding from part.address in
    let near : gap ≤ 4095 = omega arith in
    let zeros : length {A = ℕ} (replicate gap 0) ≡ gap = length-replicate gap 0 in
    let behind = segments_from (place_for from part.address + length part.bytes) memory in
    let size : size_of (part ∷ memory) ≡ length part.bytes + size_of memory = sum_by-cons (λ p. length p.bytes) part memory in
    omega (
      arith,
      near,
      size,
      zeros,
      length-append (replicate gap 0 ++ part.bytes) behind,
      length-append (replicate gap 0) part.bytes,
      segments_length (place_for from part.address + length part.bytes) memory,
    )

header_size : (h : ProgramHeader) → length (program_bytes h) ≡ 56
unfolding program_bytes
header_size h = refl

front_length : (u : ListedUnit) → length (front_bytes (contents_for u)) ≡ 424
front_length u =
    let c = contents_for u in
    let programs = flat_map program_bytes (headers_for c) in
    let front = file_header c.entry (length (headers_for c)) in
    let few : length (headers_for c) ≡ 6 = refl in
    omega (arith, length-append (front ++ programs) (record_bytes c.runtime), length-append front programs, flat_length program_bytes 56 header_size (headers_for c), few)

-- names, tables, frames and their header
pub constants_length : (u : ListedUnit) →
    length (constant_bytes u) ≤ length (names_bytes u.types) + 43 + sum_by (λ f. function_room f.function) (all_functions u)
constants_length u =
    let frames = unit_frames u in
    let rows = header_rows (frames_at u) frames in
    omega (
      arith,
      length-append (unit_names u ++ unit_tables u ++ frames_written u) (header_written u),
      length-append (unit_names u ++ unit_tables u) (frames_written u),
      length-append (unit_names u) (unit_tables u),
      filled_length (names_bytes u.types),
      frames_length frames (frames_at u),
      header_length rows (frames_at u) (header_at u),
      functions_length (code_at u) (tables_at u) (frames_at u) (frames_at u + 24) (all_functions u),
    )

stub_room : sum_by function_room emitted_stubs.functions ≡ 212
unfolding uleb_spelling uleb_spelling_within sleb_spelling sleb_spelling_within base_offset table_bytes fde_body fde_bytes
stub_room = refl

pub functions_sum : (u : ListedUnit) → sum_by (λ f. function_room f.function) (all_functions u) ≡ 212 + sum_by function_room u.functions
functions_sum u =
    let stubs = placed_from (code_at u) emitted_stubs.functions in
    let own = placed_from (unit_at u) u.functions in
    omega (
      arith,
      sum_by-append (λ f. function_room f.function) stubs own,
      placed_sum (code_at u) emitted_stubs.functions,
      placed_sum (unit_at u) u.functions,
      stub_room,
    )

pub stub_words : length emitted_stubs.code ≡ 100
stub_words = refl

words : (u : ListedUnit) → IsLinkable u → length (all_code u) ≤ 128 * u.tokens + 4096
words u can = omega (arith, length-append emitted_stubs.code u.code, stub_words, can.words)

-- with its symbols, an image leaves room for sections
pub room_left : (u : ListedUnit) → IsLinkable u → length (linked u) + symbols_room u ≤ 768 * u.tokens + 90000
unfolding linked image_bytes
room_left u can =
    let c = contents_for u in
    omega (
      arith,
      length-append (front_bytes c) (segments_from (length (front_bytes c)) c.memory),
      front_length u,
      segments_length (length (front_bytes c)) c.memory,
      globals_length u.globals,
      records_length (code_at u) (names_at u) u.types,
      code_length (all_code u),
      length-append emitted_stubs.code u.code,
      stub_words,
      constants_length u,
      functions_sum u,
      types_length u.types,
      can.room,
    )

pub few_bytes : (u : ListedUnit) → IsLinkable u → length (linked u) ≤ 768 * u.tokens + 131072
few_bytes u can = omega (arith, room_left u can)

-- an image is longer than the header of its file
pub long_enough : (u : ListedUnit) → 64 ≤ length (linked u)
unfolding linked image_bytes
long_enough u =
    let c = contents_for u in
    omega (arith, length-append (front_bytes c) (segments_from (length (front_bytes c)) c.memory), front_length u)

pub images_are_small : ImagesAreSmall
images_are_small = record { words = words; bytes = few_bytes }
