-- The header of an ELF file (ELF-64 Object File Format, "File header"): RISC-V, little-endian.
use Rattle.std.specs.Prelude.{ℕ, ◌+◌, ◌*◌, ◌==◌, ◌&&◌, ◌||◌, nat_eq, nat_lt, nat_le, Bool, List, [], ◌∷◌, ◌++◌, length}
use Rattle.std.specs.List.{starts_with}
use Rattle.std.specs.Int.{w8, w16, w64}
use Rattle.table_forms.specs.declared.reason.Reason.TheVariants.{Magic, Class, Machine, FileHeader}
use Rattle.table_forms.specs.Fault.{Fault, unless}
use Rattle.elf_image.specs.Numbers.{number_at, field, holds}

-- 0x7f, 'E', 'L', 'F'
abbrev pub is_elf : List ℕ → Bool
is_elf file = starts_with nat_eq file (0x7f ∷ 0x45 ∷ 0x4c ∷ 0x46 ∷ [])

-- 64-bit, and little-endian
abbrev pub is_class : List ℕ → Bool
is_class file = holds (λ n. n == 2) (number_at w8 file 4) && holds (λ n. n == 1) (number_at w8 file 5)

-- ET_EXEC or ET_DYN
abbrev pub is_type : List ℕ → Bool
is_type file = holds (λ n. n == 2 || n == 3) (number_at w16 file 16)

-- EM_RISCV
abbrev pub is_machine : List ℕ → Bool
is_machine file = holds (λ n. n == 243) (number_at w16 file 18)

-- the program headers lie in the file; where their number is not whole in it, their offset alone counts
abbrev pub headers_fit : List ℕ → Bool
headers_fit file = holds (λ offset. nat_le (offset + 56 * field w16 file 56) (length file)) (number_at w64 file 32)

abbrev pub is_entry_size : List ℕ → Bool
is_entry_size file = holds (λ n. n == 56) (number_at w16 file 54)

-- from 1 to 64 (profile)
abbrev pub is_count : List ℕ → Bool
is_count file = holds (λ n. nat_lt 0 n && nat_le n 64) (number_at w16 file 56)

-- the first four bytes, class and byte order, the type, the machine, where the program headers lie, their size and their number: each refused at its field
unfoldable pub header_faults : List ℕ → List Fault
header_faults file =
    unless (is_elf file) Magic 0 ++ unless (is_class file) Class 4 ++ unless (is_type file) FileHeader 16 ++ unless (is_machine file) Machine 18 ++
    unless (headers_fit file) FileHeader 32 ++ unless (is_entry_size file) FileHeader 54 ++ unless (is_count file) FileHeader 56
