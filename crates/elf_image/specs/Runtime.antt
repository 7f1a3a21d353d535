-- What an image to run has besides: a header table, and a record for the runtime (profile).
use Rattle.std.specs.Prelude.{ℕ, ◌+◌, ◌-◌, ◌%◌, ◌==◌, ◌&&◌, not, nat_lt, nat_le, Bool, false, List, [], length, find, Option, Some, None, unwrap_or, option_map, if◌then◌else◌}
use Rattle.std.specs.List.{list_any}
use Rattle.std.specs.Int.{w8, w64}
use Rattle.table_forms.specs.declared.reason.Reason.TheVariants.{Runtime}
use Rattle.table_forms.specs.Fault.{Fault, unless}
use Rattle.elf_image.specs.declared.program.ProgramHeader.{ProgramHeader}
use Rattle.eh_bytes.specs.declared.unit.RuntimeRecord.{RuntimeRecord}
use Rattle.elf_image.specs.Numbers.{field}
use Rattle.elf_image.specs.Programs.{end_of, is_executable}

abbrev pub has_address : ℕ → ProgramHeader → Bool
has_address a h = nat_le h.address a && nat_lt a (end_of h)

-- the byte of a segment at an address; behind the bytes of the file it is 0
abbrev pub byte_in : List ℕ → ℕ → ProgramHeader → ℕ
byte_in file a h = if nat_lt (a - h.address) h.file_size then field w8 file (h.offset + (a - h.address)) else 0

abbrev pub byte_at : List ℕ → List ProgramHeader → ℕ → ℕ
byte_at file ls a = unwrap_or (option_map (byte_in file a) (find (has_address a) ls)) 0

-- both encodings of the header's table say that there is none
abbrev pub is_bare_at : List ℕ → List ProgramHeader → ℕ → Bool
is_bare_at file ls a = byte_at file ls (a + 2) == 0xff && byte_at file ls (a + 3) == 0xff

abbrev pub has_table : List ℕ → List ProgramHeader → Option ProgramHeader → Bool
has_table file ls None = false
has_table file ls (Some h) = not (is_bare_at file ls h.address)

abbrev pub is_stub : ℕ → ProgramHeader → Bool
is_stub stub l = is_executable l && has_address stub l

-- the address of code, at a multiple of 4
abbrev pub has_stub : List ProgramHeader → ℕ → Bool
has_stub ls stub = stub % 4 == 0 && list_any (is_stub stub) ls

-- three words: format 1, the address of the terminate stub, which is a multiple of 4 in code, and the type record of bad_exception
abbrev pub is_runtime : List ℕ → List ProgramHeader → ProgramHeader → Bool
is_runtime file ls h =
    nat_le (h.offset + h.file_size) (length file) && h.file_size == 24 && field w64 file h.offset == 1 &&
    has_stub ls (field w64 file (h.offset + 8))

-- refused at its header, where it is not so
abbrev pub runtime_faults : List ℕ → List ProgramHeader → Option ProgramHeader → List Fault
runtime_faults file ls None = []
runtime_faults file ls (Some h) = unless (is_runtime file ls h) Runtime h.place

abbrev pub runtime_of : List ℕ → ProgramHeader → RuntimeRecord
runtime_of file h = record { terminate = field w64 file (h.offset + 8); bad_exception = field w64 file (h.offset + 16) }
