-- A memory as plain data, and what it holds at an address.
use Rattle.std.specs.Prelude.{ℕ, ◌-◌, ◌&&◌, Bool, nat_le, nat_lt, List, length, take, drop, map, find, Option, Some, None, option_map, option_and_then, if◌then◌else◌}
use Rattle.std.specs.List.{list_any}
use Rattle.std.specs.Int.{w64, from_le_bytes}
use Rattle.eh_bytes.specs.declared.segment.Segment.{Segment}
use Rattle.eh_bytes.specs.declared.segment.Segments.{Segments}

-- a segment with its bytes as a list (ELF-64, "Program Header"): where it lies in memory and in the file, and what it allows
pub record Part : Type 0 where
  pub address : ℕ
  pub bytes : List ℕ
  pub file_at : ℕ
  pub write : Bool
  pub exec : Bool

abbrev pub part_of : Segment → Part
part_of s = record { address = s.address; bytes = s.bytes.items; file_at = s.file_at; write = s.write; exec = s.exec }

-- segments in order, which do not overlap
abbrev pub Memory : Type 0
Memory = List Part

abbrev pub memory_of : Segments → Memory
memory_of segments = map part_of segments.parts.items

-- the part has a byte at the address
abbrev pub covers : Part → ℕ → Bool
covers part a = nat_le part.address a && nat_lt (a - part.address) (length part.bytes)

-- the part that has a byte at the address
abbrev pub part_with : Memory → ℕ → Option Part
part_with memory a = find (λ part. covers part a) memory

-- the bytes from the address on to the end of that part
abbrev pub bytes_from : Memory → ℕ → Option (List ℕ)
bytes_from memory a = option_map (λ part. drop (a - part.address) part.bytes) (part_with memory a)

-- the address is that of code
abbrev pub is_code : Memory → ℕ → Bool
is_code memory a = list_any (λ part. part.exec && covers part a) memory

-- eight bytes of one part, low byte first
abbrev pub word_in : Part → ℕ → Option ℕ
word_in part at =
    if nat_lt (length (drop at part.bytes)) 8 then None else Some (from_le_bytes w64 (take 8 (drop at part.bytes)))

-- the eight-byte word at an address, where it lies whole in one part
abbrev pub word_at : Memory → ℕ → Option ℕ
word_at memory a = option_and_then (λ part. word_in part (a - part.address)) (part_with memory a)
