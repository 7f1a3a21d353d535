-- What packing an image answers.
use Rattle.std.specs.Prelude.{◌≡◌, Result, Ok, Err}
use Rattle.table_forms.specs.Fault.{Fault}
use Rattle.elf_image.specs.declared.error.ImageError.{ImageError}
use Rattle.table_check.specs.Checks.{IsReported}
use Rattle.lsda_pack.specs.declared.rewriting.Packed.{Packed}
use Rattle.lsda_pack.specs.Counted.{packing_seen}
use Rattle.lsda_pack.specs.PackedImage.{Packing}

-- the packed image, or the refusal, exactly; want of memory is free
abbrev pub PacksImage : Result Packed ImageError → Result Packing Fault → Type 0
PacksImage (Ok p) read = read ≡ Ok (packing_seen p)
PacksImage (Err e) read = IsReported e read
