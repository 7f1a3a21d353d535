-- Files whose program headers, and what these name, stand behind the header of the file.
use Rattle.std.specs.Prelude.{◌≡◌, ℕ, ◌≤◌, List, Some}
use Rattle.std.specs.List.{AllByRecursion}
use Rattle.std.specs.Int.{w64}
use Rattle.elf_image.specs.declared.program.ProgramHeader.{ProgramHeader}
use Rattle.elf_image.specs.Numbers.{field}
use Rattle.elf_image.specs.Programs.{headers_of, loaded, runtime_header}

-- the program headers, the segments and the record for the runtime
pub record StandBehind (file : List ℕ) : Type 0 where
  pub headers : 64 ≤ field w64 file 32
  pub segments : AllByRecursion (λ h. 64 ≤ h.offset) (loaded (headers_of file))
  pub runtime : (h : ProgramHeader) → runtime_header (headers_of file) ≡ Some h → 64 ≤ h.offset
