-- What the memory of a new machine has: its stack, and below that the parts of an image.
use Rattle.std.proofs.Common.{◌≡◌, ◌∙◌, refl, sym, ap, arith, ℕ, ◌+◌, ◌-◌, ◌*◌, ◌<◌, ◌≤◌, Bool, true, false, List, [], ◌∷◌, map, length, flat_map, Some, w32}
use Rattle.std.specs.Prelude.{slice_index, nat_le, nat_lt, ◌&&◌}
use Rattle.std.specs.Int.{to_le_bytes}
use Rattle.std.proofs.lemmas.Bool.{and_from, and_left, and_right, le-leb, lt-ltb, le-ltb, lt-leb}
use Rattle.std.proofs.lemmas.List.{length-replicate}
use Rattle.eh_bytes.specs.Listed.{ListedUnit}
use Rattle.eh_bytes.specs.Memory as read
use Rattle.rv64_isa.specs.State.{Part, covers, byte_of, byte_at}
use Rattle.rv64_machine.specs.Initial.{zero_part, initial}
use Rattle.elf_image.specs.Elf as elf
use Rattle.elf_image.specs.Stands.{unplaced, ImageStands}
use Rattle.image_forms.specs.Placed.{globals_at, records_at, code_at, all_code, names_at}
use Rattle.image_forms.specs.Records.{records_bytes, globals_bytes}
use Rattle.image_forms.specs.Linked.{part_at, constant_bytes, memory_for, contents_for}
use Rattle.image_link.proofs.Bounds.{code_length}
use Rattle.image_link.proofs.Whole.{globals_end, records_end}
use Rattle.eh_run.specs.Program.{part_run}
use Rattle.machine_pieces.specs.Memory.{MayWrite}
use Rattle.machine_pieces.proofs.Bytes.{byte_in}
use Rattle.checked_units.proofs.Bytes.{held, all_may}

-- room for exceptions, and the stack

covers_zero : (address size a : ℕ) → covers (zero_part address size) a ≡ (nat_le address a && nat_lt (a - address) size)
unfolding zero_part
covers_zero address size a = ap (λ n. nat_le address a && nat_lt (a - address) n) (length-replicate {A = ℕ} size 0)

zero_byte : (address size a : ℕ) → (value : ℕ) × (byte_of (zero_part address size) a ≡ held true false value)
unfolding zero_part
zero_byte address size a = (_, refl)

stack_byte : (parts : List Part) (a : ℕ) → 0x7000_0000 ≤ a → a < 0x7100_0000 → byte_at (initial parts).memory a ≡ Some (held true false (zero_byte 0x7000_0000 0x100_0000 a).0)
stack_byte parts a low high =
    let slots : Part = zero_part 0x6000_0000 0x40_0000 in
    let stack : Part = zero_part 0x7000_0000 0x100_0000 in
    let above : covers slots a ≡ false = covers_zero 0x6000_0000 0x40_0000 a ∙ and_right (nat_le 0x6000_0000 a) (nat_lt (a - 0x6000_0000) 0x40_0000) (le-ltb (a - 0x6000_0000) 0x40_0000 (omega (arith, low))) in
    let inside : covers stack a ≡ true
    = covers_zero 0x7000_0000 0x100_0000 a
    ∙ and_from (nat_le 0x7000_0000 a) (nat_lt (a - 0x7000_0000) 0x100_0000) (le-leb 0x7000_0000 a low) (lt-ltb (a - 0x7000_0000) 0x100_0000 (omega (arith, low, high))) in
    byte_in slots (stack ∷ parts) a false above ∙ byte_in stack parts a true inside ∙ ap (λ b. Some b) (zero_byte 0x7000_0000 0x100_0000 a).1

pub stack_may : (parts : List Part) (a n : ℕ) → 0x7000_0000 ≤ a → a + n ≤ 0x7100_0000 → MayWrite (initial parts).memory a n
stack_may parts a n low high =
    all_may (initial parts).memory a n (λ k. (zero_byte 0x7000_0000 0x100_0000 (a + k)).0) (λ k lt. stack_byte parts (a + k) (omega (arith, low)) (omega (arith, high, lt)))

slot_byte : (parts : List Part) (a : ℕ) → 0x6000_0000 ≤ a → a < 0x6040_0000 → byte_at (initial parts).memory a ≡ Some (held true false (zero_byte 0x6000_0000 0x40_0000 a).0)
slot_byte parts a low high =
    let slots : Part = zero_part 0x6000_0000 0x40_0000 in
    let inside : covers slots a ≡ true
    = covers_zero 0x6000_0000 0x40_0000 a
    ∙ and_from (nat_le 0x6000_0000 a) (nat_lt (a - 0x6000_0000) 0x40_0000) (le-leb 0x6000_0000 a low) (lt-ltb (a - 0x6000_0000) 0x40_0000 (omega (arith, low, high))) in
    byte_in slots (zero_part 0x7000_0000 0x100_0000 ∷ parts) a true inside ∙ ap (λ b. Some b) (zero_byte 0x6000_0000 0x40_0000 a).1

pub slots_may : (parts : List Part) (a n : ℕ) → 0x6000_0000 ≤ a → a + n ≤ 0x6040_0000 → MayWrite (initial parts).memory a n
slots_may parts a n low high =
    all_may (initial parts).memory a n (λ k. (zero_byte 0x6000_0000 0x40_0000 (a + k)).0) (λ k lt. slot_byte parts (a + k) (omega (arith, low)) (omega (arith, high, lt)))

-- where a part stands in its file does not matter

abbrev IsUnplaced : List read.Part → ℕ → Type 0
IsUnplaced ps a = byte_at (map part_run ps) a ≡ byte_at (map part_run (map unplaced ps)) a

unplaced_in : (p : read.Part) (ps : List read.Part) (a : ℕ) (b : Bool) → covers (part_run p) a ≡ b → IsUnplaced ps a → IsUnplaced (p ∷ ps) a
unplaced_in p ps a true h others = byte_in (part_run p) (map part_run ps) a true h ∙ sym (byte_in (part_run (unplaced p)) (map part_run (map unplaced ps)) a true h)
unplaced_in p ps a false h others = byte_in (part_run p) (map part_run ps) a false h ∙ others ∙ sym (byte_in (part_run (unplaced p)) (map part_run (map unplaced ps)) a false h)

same_unplaced : (ps : List read.Part) (a : ℕ) → IsUnplaced ps a
same_unplaced [] a = refl
same_unplaced (p ∷ ps) a = unplaced_in p ps a (covers (part_run p) a) refl (same_unplaced ps a)

-- below the exception slots and the stack
low_byte : (parts : List Part) (a : ℕ) → a < 0x6000_0000 → byte_at (initial parts).memory a ≡ byte_at parts a
low_byte parts a low =
    let slots : Part = zero_part 0x6000_0000 0x40_0000 in
    let stack : Part = zero_part 0x7000_0000 0x100_0000 in
    byte_in slots (stack ∷ parts) a false (covers_zero 0x6000_0000 0x40_0000 a ∙ below_part 0x6000_0000 0x40_0000 a low)
    ∙ byte_in stack parts a false (covers_zero 0x7000_0000 0x100_0000 a ∙ below_part 0x7000_0000 0x100_0000 a (omega (arith, low)))
  where
    below_part : (address size a : ℕ) → a < address → (nat_le address a && nat_lt (a - address) size) ≡ false
    below_part address size a less = and_left (nat_le address a) (nat_lt (a - address) size) (lt-leb address a less)

-- the parts of an image

in_part : (part : Part) (a : ℕ) → part.address ≤ a → a < part.address + length part.bytes → covers part a ≡ true
in_part part a low high =
    and_from (nat_le part.address a) (nat_lt (a - part.address) (length part.bytes)) (le-leb part.address a low) (lt-ltb (a - part.address) (length part.bytes) (omega (arith, low, high)))

behind_part : (part : Part) (a : ℕ) → part.address + length part.bytes ≤ a → covers part a ≡ false
behind_part part a le = and_right (nat_le part.address a) (nat_lt (a - part.address) (length part.bytes)) (le-ltb (a - part.address) (length part.bytes) (omega (arith, le)))

module _ (u : ListedUnit) where
  abbrev globals_part : Part
  globals_part = part_run (part_at (globals_at u) true false (globals_bytes u.globals))

  abbrev records_part : Part
  records_part = part_run (part_at (records_at u) false false (records_bytes (code_at u) (names_at u) u.types))

  abbrev code_part : Part
  code_part = part_run (part_at (code_at u) false true (flat_map (to_le_bytes w32) (all_code u)))

  abbrev names_part : Part
  names_part = part_run (part_at (names_at u) false false (constant_bytes u))

  data_bytes : (a : ℕ) → globals_at u ≤ a → a < records_at u → byte_at (map part_run (memory_for u)) a ≡ Some (held true false (slice_index (globals_bytes u.globals) (a - globals_at u)))
  data_bytes a low high = byte_in globals_part (records_part ∷ code_part ∷ names_part ∷ []) a true (in_part globals_part a low (omega (arith, high, globals_end u)))

  code_bytes : (a : ℕ) → code_at u ≤ a → a < code_at u + 4 * length (all_code u) →
      byte_at (map part_run (memory_for u)) a ≡ Some (held false true (slice_index (flat_map (to_le_bytes w32) (all_code u)) (a - code_at u)))
  code_bytes a low high =
      byte_in globals_part (records_part ∷ code_part ∷ names_part ∷ []) a false (behind_part globals_part a (omega (arith, globals_end u, low)))
      ∙ byte_in records_part (code_part ∷ names_part ∷ []) a false (behind_part records_part a (omega (arith, records_end u, low)))
      ∙ byte_in code_part (names_part ∷ []) a true (in_part code_part a low (omega (arith, high, code_length (all_code u))))

  -- a byte of the image is in the machine's memory
  module _ (i : elf.Image) (stands : ImageStands (contents_for u) i) where
    abbrev pub memory : List Part
    memory = (initial (map part_run i.memory)).memory

    image_byte : (a : ℕ) → a < 0x6000_0000 → byte_at memory a ≡ byte_at (map part_run (memory_for u)) a
    image_byte a low = low_byte (map part_run i.memory) a low ∙ same_unplaced i.memory a ∙ ap (λ ps. byte_at (map part_run ps) a) stands.memory

    pub data_byte : (a : ℕ) → a < 0x6000_0000 → globals_at u ≤ a → a < records_at u → byte_at memory a ≡ Some (held true false (slice_index (globals_bytes u.globals) (a - globals_at u)))
    data_byte a small low high = image_byte a small ∙ data_bytes a low high

    pub code_byte : (a : ℕ) → a < 0x6000_0000 → code_at u ≤ a → a < code_at u + 4 * length (all_code u) →
        byte_at memory a ≡ Some (held false true (slice_index (flat_map (to_le_bytes w32) (all_code u)) (a - code_at u)))
    code_byte a small low high = image_byte a small ∙ code_bytes a low high
