-- The state of a hart: its pc, its registers and its memory.
use Rattle.std.specs.Prelude.{ℕ, zero, suc, ◌+◌, ◌-◌, ◌*◌, ◌/◌, ◌%◌, ◌^◌, ◌==◌, ◌&&◌, Bool, nat_le, nat_lt, List, [], ◌∷◌, length, slice_index, slice_set, find, Option, Some, option_map, option_and_then, if◌then◌else◌}

-- a range of memory, where its bytes stand in the file that they came from, and whether they may be written and executed
pub record Part : Type 0 where
  pub address : ℕ
  pub bytes : List ℕ
  pub file_at : ℕ
  pub write : Bool
  pub exec : Bool

pub record State : Type 0 where
  pub pc : ℕ
  pub regs : List ℕ
  pub memory : List Part

abbrev pub state : ℕ → List ℕ → List Part → State
state pc regs memory = record { pc = pc; regs = regs; memory = memory }

-- register x0 is 0 and stays so
abbrev pub reg_of : List ℕ → ℕ → ℕ
reg_of regs n = if n == 0 then 0 else slice_index regs n

abbrev pub with_reg : List ℕ → ℕ → ℕ → List ℕ
with_reg regs n value = if n == 0 then regs else slice_set regs n value

-- memory is one map from addresses to bytes, each with what may be done with it
pub record Byte : Type 0 where
  pub value : ℕ
  pub write : Bool
  pub exec : Bool

-- the part has a byte at the address
abbrev pub covers : Part → ℕ → Bool
covers part a = nat_le part.address a && nat_lt (a - part.address) (length part.bytes)

-- the part that has a byte at the address; parts do not overlap
abbrev pub part_with : List Part → ℕ → Option Part
part_with memory a = find (λ part. covers part a) memory

abbrev pub byte_of : Part → ℕ → Byte
byte_of part a = record { value = slice_index part.bytes (a - part.address); write = part.write; exec = part.exec }

abbrev pub byte_at : List Part → ℕ → Option Byte
byte_at memory a = option_map (λ part. byte_of part a) (part_with memory a)

-- some bytes from an address on, where there is a byte at each place
unfoldable pub bytes_at : List Part → ℕ → ℕ → Option (List Byte)
bytes_at memory a zero = Some []
bytes_at memory a (suc n) = option_and_then (λ b. option_map (λ bytes. b ∷ bytes) (bytes_at memory (a + 1) n)) (byte_at memory a)

-- the number that bytes stand for, the lowest first (little-endian)
unfoldable pub value_of : List Byte → ℕ
value_of [] = 0
value_of (b ∷ bytes) = b.value + 2 ^ 8 * value_of bytes

-- the memory with another byte at an address
unfoldable pub with_byte : List Part → ℕ → ℕ → List Part
with_byte [] a value = []
with_byte (part ∷ memory) a value =
    if covers part a
    then record part { bytes = slice_set part.bytes (a - part.address) value } ∷ memory
    else part ∷ with_byte memory a value

-- the memory with the low bytes of a value from an address on, the lowest first
unfoldable pub with_value : List Part → ℕ → ℕ → ℕ → List Part
with_value memory a zero value = memory
with_value memory a (suc n) value = with_value (with_byte memory a (value % 2 ^ 8)) (a + 1) n (value / 2 ^ 8)
