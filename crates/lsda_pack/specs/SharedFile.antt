-- Segments whose bytes are the same bytes of the file.
use Rattle.std.specs.Prelude.{◌+◌, ◌&&◌, not, nat_lt, Bool, List, [], ◌∷◌, ◌++◌}
use Rattle.std.specs.List.{list_any}
use Rattle.table_forms.specs.declared.reason.Reason.TheVariants.{FileShared}
use Rattle.table_forms.specs.Fault.{Fault, unless}
use Rattle.elf_image.specs.declared.program.ProgramHeader.{ProgramHeader}

-- some byte of the file is in both
abbrev pub meet_in_file : ProgramHeader → ProgramHeader → Bool
meet_in_file h k =
    nat_lt 0 h.file_size && nat_lt 0 k.file_size && nat_lt h.offset (k.offset + k.file_size) && nat_lt k.offset (h.offset + h.file_size)

-- 84: a segment and an earlier one, at the later header
abbrev pub file_faults : List ProgramHeader → List ProgramHeader → List Fault
file_faults earlier [] = []
file_faults earlier (h ∷ rest) = unless (not (list_any (meet_in_file h) earlier)) FileShared h.place ++ file_faults (h ∷ earlier) rest
