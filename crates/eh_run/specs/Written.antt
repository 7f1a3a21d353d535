-- Exception tables where something may be written.
use Rattle.std.specs.Prelude.{ℕ, ◌==◌, List, [], flat_map, if◌then◌else◌}
use Rattle.eh_bytes.specs.Memory.{Memory}
use Rattle.table_forms.specs.Fault.{Fault}
use Rattle.frame_read.specs.declared.listed.Fde.{Fde}
use Rattle.elf_image.specs.Runnable.{written_at}

-- address 0 is no table
abbrev pub table_written : Memory → ℕ → List Fault
table_written memory a = if a == 0 then [] else written_at memory a

abbrev pub tables_written : Memory → List Fde → List Fault
tables_written memory fdes = flat_map (λ fde. table_written memory fde.lsda) fdes
