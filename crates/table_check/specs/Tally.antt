-- Tables and sites counted FDE by FDE.
use Rattle.std.specs.Prelude.{◌≡◌, ◌<◌, ◌+◌, ◌^◌, ℕ, ⊤, List, [], ◌∷◌, Option, Some, None, Result, Ok, Err, IsOkAnd, length}
use Rattle.eh_bytes.specs.Memory.{Memory}
use Rattle.table_forms.specs.Fault.{Fault, ◌>>=◌}
use Rattle.table_forms.specs.Lsda.{Table}
use Rattle.elf_image.specs.declared.error.ImageError.{ImageError}
use Rattle.elf_image.specs.Clean.{table_named}
use Rattle.frame_read.specs.declared.listed.Fde.{Fde}
use Rattle.table_check.specs.declared.tables.Tally.{Tally}
use Rattle.table_check.specs.Checks.{IsReported}
use Rattle.table_check.specs.Counts.{tables_in, sites_in}

-- its region ends in the address space
abbrev pub IsFit : Fde → Type 0
IsFit f = f.region.start + f.region.length < 2 ^ 64

-- behind so many tables and sites
abbrev pub tallied : Memory → ℕ → ℕ → List Fde → Result (ℕ × ℕ) Fault
tallied memory tables sites [] = Ok (tables, sites)
tallied memory tables sites (f ∷ fs) = do
  table ← table_named memory f.lsda f.region
  tallied memory (tables + tables_in table) (sites + sites_in table) fs

abbrev pub CountIs : Option ℕ → Option Table → Type 0
CountIs None None = ⊤
CountIs (Some n) (Some table) = n ≡ length table.sites
CountIs _ _ = ⊥

-- the sites of a table are so many, or it is refused; want of memory is free
abbrev pub ReadsCount : Result (Option ℕ) ImageError → Result (Option Table) Fault → Type 0
ReadsCount (Ok n) read = IsOkAnd read (CountIs n)
ReadsCount (Err e) read = IsReported e read

abbrev pub ReadsTally : Result Tally ImageError → Result (ℕ × ℕ) Fault → Type 0
ReadsTally (Ok t) read = read ≡ Ok (t.tables, t.sites)
ReadsTally (Err e) read = IsReported e read
