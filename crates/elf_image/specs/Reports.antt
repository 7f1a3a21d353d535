-- How a refusal is reported.
use Rattle.std.specs.Prelude.{◌-◌, ◌^◌, min}
use Rattle.table_forms.specs.Fault.{Fault}
use Rattle.elf_image.specs.declared.error.ImageError.{ImageError}
use Rattle.elf_image.specs.declared.error.ImageError.TheVariants.{Refused}

-- a place that passes 2^64 - 1 is 2^64 - 1; no place in a file does
abbrev pub reported : Fault → ImageError
reported f = Refused f.reason (min f.place (2 ^ 64 - 1)) f.location f.other
