-- Linked images can be written, and their files are those of images to run.
use Rattle.std.proofs.Common.{◌≡◌, ◌≤◌, ◌<◌, ℕ, ◌+◌, ◌-◌, ◌*◌, ◌^◌, true, false, ◌||◌, ◌&&◌, List, [], ◌∷◌, ◌++◌, length, length-append, Some, refl, sym, ◌∙◌, ap, subst, arith}
use Rattle.std.specs.Prelude.{◌==◌, if◌then◌else◌, slice_index, unwrap_or, option_map, IsSomeAnd, ⊤, flat_map, Result, Ok, Err, OnOk}
use Rattle.std.specs.List.{list_any}
use Rattle.std.specs.Int.{w32, to_le_bytes}
use Rattle.std.proofs.lemmas.Bool.Decides.{nat_tests}
use Rattle.std.proofs.lemmas.List.{get_or-append-add}
use Rattle.eh_bytes.specs.Listed.{ListedUnit}
use Rattle.eh_bytes.specs.Memory.{Part, Memory, covers, part_with, is_code}
use Rattle.eh_write.specs.WrittenHeader.{header_bytes}
use Rattle.elf_image.specs.CanWrite.{size_of, byte_of, CanWriteImage, CanRunImage}
use Rattle.linear_forms.specs.Stub.{terminating}
use Rattle.machine_forms.specs.StubCode.{stub_first}
use Rattle.machine_forms.specs.Emitted.{emitted_stubs}
use Rattle.image_forms.specs.Placed.{globals_at, records_at, code_at, all_code, names_at}
use Rattle.image_forms.specs.Records.{globals_bytes, records_bytes}
use Rattle.image_forms.specs.Linked.{unit_names, unit_tables, unit_frames, frames_at, frames_written, header_at, header_written, constant_bytes, part_at, memory_for, contents_for}
use Rattle.image_forms.specs.Tables.{header_rows}
use Rattle.image_forms.specs.Linkable.{IsLinkable}
use Rattle.image_link.proofs.Bounds.{code_length, globals_length, records_length, header_length, types_length}
use Rattle.image_link.proofs.Images.{constants_length, functions_sum, stub_words}
use Rattle.image_link.proofs.Whole.{globals_end, records_end, code_end}

covered : (part : Part) (a : ℕ) → part.address ≤ a → a < part.address + length part.bytes → covers part a ≡ true
covered part a low high = grind (arith, nat_tests)

passed : (part : Part) (a : ℕ) → part.address + length part.bytes ≤ a → covers part a ≡ false
passed part a high = grind (arith, nat_tests)

here : (p : Part) (ps : Memory) (a : ℕ) → covers p a ≡ true → part_with (p ∷ ps) a ≡ Some p
here p ps a e = ap (λ t. if t then Some p else part_with ps a) e

there : (p : Part) (ps : Memory) (a : ℕ) → covers p a ≡ false → part_with (p ∷ ps) a ≡ part_with ps a
there p ps a e = ap (λ t. if t then Some p else part_with ps a) e

-- the names, tables and frames stand before the header
abbrev pub before_header : ListedUnit → List ℕ
before_header u = unit_names u ++ unit_tables u ++ frames_written u

pub header_place : (u : ListedUnit) → names_at u + length (before_header u) ≡ header_at u
header_place u = omega (arith, length-append (unit_names u ++ unit_tables u) (frames_written u), length-append (unit_names u) (unit_tables u))

constants_end : (u : ListedUnit) → header_at u + 12 ≤ names_at u + length (constant_bytes u)
constants_end u = omega (arith, header_place u, length-append (before_header u) (header_written u), header_length (header_rows (frames_at u) (unit_frames u)) (frames_at u) (header_at u))

-- the bytes of all segments
few : (u : ListedUnit) → IsLinkable u → 4 * length u.globals + 24 * length u.types + 4 * length (all_code u) + length (constant_bytes u) ≤ 50400000
few u can = omega (arith, constants_length u, functions_sum u, types_length u.types, can.room, can.source, length-append emitted_stubs.code u.code, stub_words)

size : (u : ListedUnit) → IsLinkable u → size_of (memory_for u) ≤ 2 ^ 26
size u can = omega (arith, few u can, globals_length u.globals, records_length (code_at u) (names_at u) u.types, code_length (all_code u))

-- the segments by name
abbrev globals_part : ListedUnit → Part
globals_part u = part_at (globals_at u) true false (globals_bytes u.globals)

abbrev records_part : ListedUnit → Part
records_part u = part_at (records_at u) false false (records_bytes (code_at u) (names_at u) u.types)

abbrev code_part : ListedUnit → Part
code_part u = part_at (code_at u) false true (flat_map (to_le_bytes w32) (all_code u))

abbrev pub constants_part : ListedUnit → Part
constants_part u = part_at (names_at u) false false (constant_bytes u)

-- the last segment has its own addresses
pub last_found : (u : ListedUnit) (a : ℕ) → names_at u ≤ a → a < names_at u + length (constant_bytes u) → part_with (memory_for u) a ≡ Some (constants_part u)
last_found u a behind inside =
    let g = globals_part u in
    let r = records_part u in
    let c = code_part u in
    let k = constants_part u in
    there g (r ∷ c ∷ k ∷ []) a (passed g a (omega (arith, globals_end u, records_end u, code_end u, behind)))
    ∙ (there r (c ∷ k ∷ []) a (passed r a (omega (arith, records_end u, code_end u, behind)))
    ∙ (there c (k ∷ []) a (passed c a (omega (arith, code_end u, behind)))
    ∙ here k [] a (covered k a behind inside)))

-- also the header's first bytes
found : (u : ListedUnit) (n : ℕ) → n < 12 → part_with (memory_for u) (header_at u + n) ≡ Some (constants_part u)
found u n little = last_found u (header_at u + n) (omega (arith, header_place u)) (omega (arith, constants_end u, little))

-- the words of the code are code
pub code_found : (u : ListedUnit) (a : ℕ) → code_at u ≤ a → a < code_at u + 4 * length (all_code u) → is_code (memory_for u) a ≡ true
code_found u a low high =
    ap (λ t. t || list_any (λ part. part.exec && covers part a) (constants_part u ∷ []))
    (covered (code_part u) a low (omega (arith, high, code_length (all_code u))))

pub can_write : (u : ListedUnit) → IsLinkable u → CanWriteImage (contents_for u)
can_write u can =
    let first : stub_first terminating ≡ 4 = refl in
    let a = code_at u + 4 * stub_first terminating in
    let high : a < code_at u + 4 * length (all_code u) = omega (arith, first, length-append emitted_stubs.code u.code, stub_words) in
    let place : header_at u ≡ header_at u + 0 = omega arith in
    record {
      some = omega arith;
      few = omega arith;
      rising = (omega (arith, globals_end u), (omega (arith, records_end u), (omega (arith, code_end u), tt)));
      small = omega (arith, size u can);
      frames = subst (λ o. IsSomeAnd o (λ _. ⊤)) (sym (ap (part_with (memory_for u)) place ∙ found u 0 (omega arith))) tt;
      aligned = omega (arith, first);
      code = code_found u a (omega arith) high;
    }

-- the second encoding of the header's table is 3
header_byte : (u : ListedUnit) → slice_index (header_written u) 2 ≡ 3
unfolding header_bytes
header_byte u = refl

table_byte : (u : ListedUnit) → byte_of (memory_for u) (header_at u + 2) ≡ 3
table_byte u =
    let a = header_at u + 2 in
    let place : a - names_at u ≡ length (before_header u) + 2 = omega (arith, header_place u) in
    ap (λ o. unwrap_or (option_map (λ part. slice_index part.bytes (a - part.address)) o) 0) (found u 2 (omega arith))
    ∙ (ap (λ n. slice_index (constant_bytes u) n) place ∙ (get_or-append-add (before_header u) (header_written u) 2 0 ∙ header_byte u))

pub constants_low : (u : ListedUnit) → IsLinkable u → names_at u + length (constant_bytes u) ≤ 0x60000000
constants_low u can = omega (arith, few u can)

pub can_run : (u : ListedUnit) → IsLinkable u → CanRunImage (contents_for u)
can_run u can =
    let globals = globals_end u in
    let records = records_end u in
    let code = code_end u in
    let constants = constants_low u can in
    let next = byte_of (memory_for u) (header_at u + 3) in
    record {
      low = (
        (omega arith, omega (arith, globals, records, code, constants)),
        (
          (omega arith, omega (arith, records, code, constants)),
          ((omega arith, omega (arith, code, constants)), ((omega arith, constants), tt)),
        ),
      );
      small = size u can;
      table = ap (λ b. b == 0xff && next == 0xff) (table_byte u);
    }

-- what holds of contents that can be written and run
pub writes_of : (u : ListedUnit) (image : Type 0) → (CanWriteImage (contents_for u) → CanRunImage (contents_for u) → image) → IsLinkable u → image
writes_of u image is can = is (can_write u can) (can_run u can)

pub behind_of : (u : ListedUnit) (fact : Type 0) → (CanWriteImage (contents_for u) → fact) → IsLinkable u → fact
behind_of u fact is can = is (can_write u can)
