-- What loading answers.
use Rattle.std.specs.Prelude.{◌≡◌, Result, Ok, Err, IsOkAnd}
use Rattle.table_forms.specs.Fault.{Fault}
use Rattle.elf_image.specs.declared.error.ImageError.{ImageError}
use Rattle.elf_image.specs.Clean.{CleanImage}
use Rattle.table_check.specs.Checks.{IsReported}
use Rattle.eh_run.specs.Program.{Program, program_of}

-- the program of the image, or its refusal, exactly; want of memory is free
abbrev pub Loads : Result Program ImageError → Result CleanImage Fault → Type 0
Loads (Ok program) read = IsOkAnd read (λ i. program ≡ program_of i)
Loads (Err e) read = IsReported e read
