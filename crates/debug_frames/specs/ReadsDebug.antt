-- What a reading of .debug_frame answers.
use Rattle.std.specs.Prelude.{◌≡◌, ⊤, Result, Ok, Err}
use Rattle.table_forms.specs.Fault.{Fault}
use Rattle.table_forms.specs.Frames.{Frames}
use Rattle.elf_image.specs.Reports.{reported}
use Rattle.elf_image.specs.declared.error.ImageError.{ImageError}
use Rattle.elf_image.specs.declared.error.ImageError.TheVariants.{Refused, NoMemory}

-- the frames, or the refusal, exactly; want of memory is free
abbrev pub ReadsDebug : Result Frames ImageError → Result Frames Fault → Type 0
ReadsDebug (Ok frames) read = read ≡ Ok frames
ReadsDebug (Err (Refused reason place location other)) read = (f : Fault) × (read ≡ Err f) × (reported f ≡ Refused reason place location other)
ReadsDebug (Err NoMemory) read = ⊤
