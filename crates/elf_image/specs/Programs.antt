-- Program headers (ELF-64 Object File Format, "Program header table").
use Rattle.std.specs.Prelude.{ℕ, zero, suc, ◌+◌, ◌/◌, ◌%◌, ◌==◌, Bool, List, [], ◌∷◌, filter, find, Option}
use Rattle.std.specs.Int.{w16, w32, w64}
use Rattle.elf_image.specs.declared.program.ProgramHeader.{ProgramHeader}
use Rattle.elf_image.specs.Numbers.{field}

-- a field that is not whole in the file is 0
unfoldable pub header_at : List ℕ → ℕ → ProgramHeader
header_at file p = record {
  place = p;
  kind = field w32 file p;
  flags = field w32 file (p + 4);
  offset = field w64 file (p + 8);
  address = field w64 file (p + 16);
  file_size = field w64 file (p + 32);
  memory_size = field w64 file (p + 40);
}

-- in order, each of 56 bytes
abbrev pub headers_from : ℕ → List ℕ → ℕ → List ProgramHeader
headers_from zero file p = []
headers_from (suc n) file p = header_at file p ∷ headers_from n file (p + 56)

unfoldable pub headers_of : List ℕ → List ProgramHeader
headers_of file = headers_from (field w16 file 56) file (field w64 file 32)

-- PT_LOAD
abbrev pub is_load : ProgramHeader → Bool
is_load h = h.kind == 1

abbrev pub loaded : List ProgramHeader → List ProgramHeader
loaded headers = filter is_load headers

-- PT_GNU_EH_FRAME; the first counts
abbrev pub frames_header : List ProgramHeader → Option ProgramHeader
frames_header headers = find (λ h. h.kind == 0x6474e550) headers

-- this project's record for its runtime; the first counts
abbrev pub runtime_header : List ProgramHeader → Option ProgramHeader
runtime_header headers = find (λ h. h.kind == 0x6e485831) headers

abbrev pub end_of : ProgramHeader → ℕ
end_of h = h.address + h.memory_size

-- PF_X and PF_W
abbrev pub is_executable : ProgramHeader → Bool
is_executable h = h.flags % 2 == 1

abbrev pub is_writable : ProgramHeader → Bool
is_writable h = h.flags / 2 % 2 == 1
