-- What a reader of images answers.
use Rattle.std.specs.Prelude.{◌≡◌, ⊤, Result, Ok, Err}
use Rattle.eh_bytes.specs.Memory.{memory_of}
use Rattle.table_forms.specs.Fault.{Fault}
use Rattle.elf_image.specs.declared.elf.Elf.{Elf}
use Rattle.elf_image.specs.declared.error.ImageError.{ImageError}
use Rattle.elf_image.specs.declared.error.ImageError.TheVariants.{Refused, NoMemory}
use Rattle.elf_image.specs.Elf.{Image}
use Rattle.elf_image.specs.Reports.{reported}

abbrev pub image_seen : Elf → Image
image_seen e = record { entry = e.entry; memory = memory_of e.segments; frame_header = e.frame_header; runtime = e.runtime }

-- the image, or the refusal, exactly; want of memory is free
abbrev pub ReadsImage : Result Elf ImageError → Result Image Fault → Type 0
ReadsImage (Ok e) read = read ≡ Ok (image_seen e)
ReadsImage (Err (Refused reason place location other)) read = (f : Fault) × (read ≡ Err f) × (reported f ≡ Refused reason place location other)
ReadsImage (Err NoMemory) read = ⊤
