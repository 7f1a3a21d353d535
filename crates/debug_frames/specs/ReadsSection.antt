-- What a search for a section answers.
use Rattle.std.specs.Prelude.{◌≡◌, ℕ, Result, Ok, Err}
use Rattle.table_forms.specs.Seen.{fault_of}
use Rattle.table_forms.specs.declared.refusal.Refusal.{Refusal}
use Rattle.elf_image.specs.Reports.{reported}
use Rattle.elf_image.specs.declared.error.ImageError.{ImageError}
use Rattle.elf_image.specs.declared.error.ImageError.TheVariants.{Refused, NoMemory}

-- where it stands, or the refusal, exactly; it takes no memory
abbrev pub ReadsSection : Result (ℕ × ℕ) ImageError → Result (ℕ × ℕ) Refusal → Type 0
ReadsSection (Ok found) read = read ≡ Ok found
ReadsSection (Err (Refused reason place location other)) read = (r : Refusal) × (read ≡ Err r) × (reported (fault_of r) ≡ Refused reason place location other)
ReadsSection (Err NoMemory) read = ⊥
