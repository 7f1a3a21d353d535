-- The bytes of an image that is written (ELF-64 Object File Format).
use Rattle.std.specs.Prelude.{ℕ, ◌+◌, List, [], ◌∷◌, ◌++◌, length, flat_map, replicate, if◌then◌else◌}
use Rattle.std.specs.Int.{w16, w32, w64, to_le_bytes}
use Rattle.eh_bytes.specs.declared.unit.RuntimeRecord.{RuntimeRecord}
use Rattle.eh_bytes.specs.Memory.{Memory}
use Rattle.elf_image.specs.declared.program.ProgramHeader.{ProgramHeader}
use Rattle.elf_image.specs.Programs.{is_load}
use Rattle.elf_image.specs.Laid.{Contents, padding, place_for, headers_for}

abbrev pub words : List ℕ → List ℕ
words numbers = flat_map (to_le_bytes w64) numbers

-- 64-bit, little-endian, version 1; ET_EXEC for RISC-V, version 1
abbrev pub identity : List ℕ
identity =
    0x7f ∷ 0x45 ∷ 0x4c ∷ 0x46 ∷ 2 ∷ 1 ∷ 1 ∷ 0 ∷ 0 ∷ 0 ∷ 0 ∷ 0 ∷ 0 ∷ 0 ∷ 0 ∷ 0 ∷ 2 ∷ 0 ∷ 243 ∷ 0 ∷ 1 ∷ 0 ∷ 0 ∷ 0 ∷ []

-- no flags; 64 bytes of header, 56 of each program header
abbrev pub sizes : List ℕ
sizes = 0 ∷ 0 ∷ 0 ∷ 0 ∷ 64 ∷ 0 ∷ 56 ∷ 0 ∷ []

-- program headers behind the header, and no sections
abbrev pub file_header : ℕ → ℕ → List ℕ
file_header entry count = identity ++ words (entry ∷ 64 ∷ 0 ∷ []) ++ sizes ++ to_le_bytes w16 count ++ 0 ∷ 0 ∷ 0 ∷ 0 ∷ 0 ∷ 0 ∷ []

-- pages are 0x1000 bytes
abbrev pub alignment : ProgramHeader → ℕ
alignment h = if is_load h then 0x1000 else 4

-- the physical address is the address
unfoldable pub program_bytes : ProgramHeader → List ℕ
program_bytes h =
    to_le_bytes w32 h.kind ++ to_le_bytes w32 h.flags ++
    words (h.offset ∷ h.address ∷ h.address ∷ h.file_size ∷ h.memory_size ∷ alignment h ∷ [])

-- format 1
abbrev pub record_bytes : RuntimeRecord → List ℕ
record_bytes r = words (1 ∷ r.terminate ∷ r.bad_exception ∷ [])

abbrev pub front_bytes : Contents → List ℕ
front_bytes c =
    file_header c.entry (length (headers_for c)) ++ flat_map program_bytes (headers_for c) ++ record_bytes c.runtime

-- the segments from a place on
abbrev pub segments_from : ℕ → Memory → List ℕ
segments_from from [] = []
segments_from from (part ∷ memory) =
    replicate (padding from part.address) 0 ++ part.bytes ++ segments_from (place_for from part.address + length part.bytes) memory

unfoldable pub image_bytes : Contents → List ℕ
image_bytes c = front_bytes c ++ segments_from (length (front_bytes c)) c.memory
