-- The memory of a machine: its exception slots, its stack, and the segments that it was given.
use Rattle.std.specs.Prelude.{ℕ, ◌≡◌, ◌≤◌, ◌+◌, ◌-◌, ◌*◌, ◌&&◌, List, ◌∷◌, length, map, Option, option_map, option_and_then}
use Rattle.std.specs.List.{list_all}
use Rattle.eh_bytes.specs.declared.segment.Segment.{Segment}
use Rattle.eh_bytes.specs.Extent.{AreBelow, extents_of}
use Rattle.rv64_isa.specs.State.{Part, Byte, bytes_at, part_with, value_of}
use Rattle.rv64_machine.specs.Bytes.{number_at}
use Rattle.rv64_machine.specs.declared.memory.Access.{Access}

abbrev pub part_of : Segment → Part
part_of s = record { address = s.address; bytes = s.bytes.items; file_at = s.file_at; write = s.write; exec = s.exec }

abbrev pub memory_of : Part → Part → List Segment → List Part
memory_of slots stack segments = slots ∷ stack ∷ map part_of segments

-- the slots and the stack lie at their addresses, and the segments below them
pub record IsLaidOut (slots stack : Part) (segments : List Segment) : Type 0 where
  pub slots_from : slots.address ≡ 0x6000_0000
  pub slots_size : length slots.bytes ≡ 0x40_0000
  pub stack_from : stack.address ≡ 0x7000_0000
  pub stack_size : length stack.bytes ≡ 0x100_0000
  pub below : AreBelow 0x6000_0000 (extents_of segments)

-- the part has n bytes from the address on
abbrev pub Spans : Part → ℕ → ℕ → Type 0
Spans part a n = (part.address ≤ a) × (a + n ≤ part.address + length part.bytes)

-- what some bytes stand for, and what may be done with all of them
abbrev pub access_of : List Byte → Access
access_of bytes = record { value = value_of bytes; write = list_all (λ b. b.write) bytes; exec = list_all (λ b. b.exec) bytes }

abbrev pub accessed : List Part → ℕ → ℕ → Option Access
accessed memory a size = option_map access_of (bytes_at memory a size)

-- the same of a part that has all these bytes
abbrev pub access_in : Part → ℕ → ℕ → Access
access_in part a size = record { value = number_at part.bytes (a - part.address) size; write = part.write; exec = part.exec }

-- an access to so many bytes and one to those behind, as one
abbrev pub joined : ℕ → Access → Access → Access
joined place low high = record { value = low.value + place * high.value; write = low.write && high.write; exec = low.exec && high.exec }

abbrev pub join : ℕ → Option Access → Option Access → Option Access
join place low high = option_and_then (λ l. option_map (λ h. joined place l h) high) low

-- the access to one byte
abbrev pub byte_accessed : List Part → ℕ → Option Access
byte_accessed memory a = option_map (λ part. access_in part a 1) (part_with memory a)
