-- The globals and the code of an image in the memory of the machine that runs it.
use Rattle.std.proofs.Common.{◌≡◌, ◌∙◌, refl, ap, arith, ℕ, ◌+◌, ◌-◌, ◌*◌, ◌%◌, ◌^◌, ◌<◌, ◌≤◌, ℤ, true, false, List, length, flat_map, get_or, Some, w32}
use Rattle.std.specs.Prelude.{slice_get, slice_index, reverse}
use Rattle.std.specs.Int.{to_le_bytes}
use Rattle.std.proofs.lemmas.List.{get_or-reverse, length-reverse}
use Rattle.std.proofs.lemmas.Option.{slice_get_within, get_or_from_slice_get, slice_get-get_or}
use Rattle.eh_bytes.specs.Listed.{ListedUnit}
use Rattle.rv64_isa.specs.State.{Part, byte_at}
use Rattle.elf_image.specs.Elf as elf
use Rattle.elf_image.specs.Stands.{ImageStands}
use Rattle.image_forms.specs.Placed.{page_from, globals_at, records_at, code_at, all_code}
use Rattle.image_forms.specs.Records.{globals_bytes}
use Rattle.image_forms.specs.Linked.{contents_for}
use Rattle.machine_pieces.specs.Memory.{MayWrite}
use Rattle.machine_pieces.specs.Standing.{WordsAt, HaveBits}
use Rattle.machine_pieces.specs.Numbers.{IsInt, int_bits}
use Rattle.machine_pieces.specs.Frames.{IntAt}
use Rattle.machine_pieces.proofs.Numbers.{int_stored}
use Rattle.checked_units.proofs.Bytes.{held, item_byte, four, four_value, four_there, all_may}
use Rattle.checked_units.proofs.Memory.{memory, data_byte, code_byte}

turned : (values : List ℤ) (g k : ℕ) (z : ℤ) → slice_get values g ≡ Some z → g + k + 1 ≡ length values → slice_get (reverse values) k ≡ Some z
turned values g k z e count =
    let inside : k < length (reverse values) = omega (arith, count, length-reverse values) in
    let place : length values - 1 - k ≡ g = omega (arith, count) in
    slice_get-get_or (reverse values) k z inside ∙ ap (λ x. Some x) (get_or-reverse values k z (omega (arith, count)) ∙ ap (λ n. get_or values n z) place ∙ get_or_from_slice_get values g z z e)

module _ (u : ListedUnit) (i : elf.Image) (stands : ImageStands (contents_for u) i) (low : code_at u + 4 * length (all_code u) < 2 ^ 30) where
  abbrev bytes_in : List Part
  bytes_in = memory u i stands

  -- a byte of a global: the k-th from the last one
  global_bytes : (g k j a : ℕ) (z : ℤ) → slice_get u.globals g ≡ Some z → g + k + 1 ≡ length u.globals → j < 4 → a ≡ globals_at u + 4 * k + j →
      byte_at bytes_in a ≡ Some (held true false (get_or (to_le_bytes w32 (int_bits z)) j 0))
  global_bytes g k j a z e count small is =
      let room : 4 * length u.globals ≤ page_from (4 * length u.globals) = omega arith in
      let above : a < records_at u = omega (arith, is, count, small, room) in
      let place : a - globals_at u ≡ 4 * k + j = omega (arith, is) in
      data_byte u i stands a (omega (arith, above, low)) (omega (arith, is)) above ∙ ap (λ n. Some (held true false (slice_index (globals_bytes u.globals) n))) place
      ∙ ap (λ v. Some (held true false v)) (item_byte int_bits (reverse u.globals) k z j (turned u.globals g k z e count) small)

  pub global_int : (g k a : ℕ) (z : ℤ) → slice_get u.globals g ≡ Some z → IsInt z → g + k + 1 ≡ length u.globals → a ≡ globals_at u + 4 * k → IntAt bytes_in a z
  global_int g k a z e int count is =
      let w : ℕ = int_bits z in
      let fits : w < 2 ^ 32 = omega (arith, int_stored z int) in
      let room : 4 * length u.globals ≤ page_from (4 * length u.globals) = omega arith in
      let page : page_from (4 * length u.globals) % 4 ≡ 0 = omega arith in
      record {
        int = int;
        aligned = omega (arith, is, room, page);
        below = omega (arith, is, low, room, count);
        holds = record { bytes = four true false w; there = four_there true false bytes_in a w (λ j b lt at. global_bytes g k j b z e count lt (omega (arith, at, is))); is = four_value true false w fits };
      }

  pub global_may : (g k a o n : ℕ) (z : ℤ) → slice_get u.globals g ≡ Some z → g + k + 1 ≡ length u.globals → a ≡ globals_at u + 4 * k → o + n ≤ 4 → MayWrite bytes_in (a + o) n
  global_may g k a o n z e count is inside =
      all_may bytes_in (a + o) n (λ j. get_or (to_le_bytes w32 (int_bits z)) (o + j) 0) (λ j lt. global_bytes g k (o + j) (a + o + j) z e count (omega (arith, lt, inside)) (omega (arith, is)))

  -- a byte of code
  code_bytes : (n j a word : ℕ) → slice_get (all_code u) n ≡ Some word → j < 4 → a ≡ code_at u + 4 * n + j → byte_at bytes_in a ≡ Some (held false true (get_or (to_le_bytes w32 word) j 0))
  code_bytes n j a word e small is =
      let inside = slice_get_within (all_code u) n word e in
      let place : a - code_at u ≡ 4 * n + j = omega (arith, is) in
      code_byte u i stands a (omega (arith, is, inside, small, low)) (omega (arith, is)) (omega (arith, is, inside, small))
      ∙ ap (λ k. Some (held false true (slice_index (flat_map (to_le_bytes w32) (all_code u)) k))) place ∙ ap (λ v. Some (held false true v)) (item_byte (λ w. w) (all_code u) n word j e small)

  pub image_words : HaveBits (all_code u) → WordsAt bytes_in (code_at u) (all_code u)
  image_words small n word e =
      let inside = slice_get_within (all_code u) n word e in
      record {
        aligned = omega arith;
        below = omega (arith, low, inside);
        bytes = four false true word;
        there = four_there false true bytes_in (code_at u + 4 * n) word (λ j b lt at. code_bytes n j b word e lt at);
        code = refl;
        spells = four_value false true word (small n word e);
      }
