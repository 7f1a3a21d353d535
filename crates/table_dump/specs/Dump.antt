-- What is printed of a clean image.
use Rattle.std.specs.Prelude.{◌≡◌, ℕ, List, [], ◌++◌, flat_map, Option, Some, None, Vec, Result, Ok, Err}
use Rattle.std.specs.Global.{Global}
use Rattle.table_forms.specs.Fault.{Fault}
use Rattle.table_forms.specs.Lsda.{Table}
use Rattle.elf_image.specs.declared.error.ImageError.{ImageError}
use Rattle.elf_image.specs.Clean.{Function, CleanImage}
use Rattle.table_check.specs.Checks.{IsReported}
use Rattle.table_dump.specs.Heads.{image_line, segment_line, frames_part, cie_line}
use Rattle.table_dump.specs.Rows.{frame_line, rows_text}
use Rattle.table_dump.specs.Tables.{lsda_line, table_text}

abbrev pub named_text : ℕ → Option Table → List ℕ
named_text address None = []
named_text address (Some table) = lsda_line address ++ table_text table

abbrev pub function_text : Function → List ℕ
function_text f = frame_line f.fde.region.start f.fde.region.length ++ rows_text f.fde ++ named_text f.fde.lsda f.table

unfoldable pub dump : CleanImage → List ℕ
dump i =
    image_line i.image.entry ++ flat_map segment_line i.image.memory ++
    flat_map (cie_line (frames_part i.image.memory i.image.frame_header)) i.cies ++ flat_map function_text i.functions

-- the text of the clean image, or the refusal, exactly; want of memory is free
abbrev pub DumpsImage : Result (Vec ℕ Global) ImageError → Result CleanImage Fault → Type 0
DumpsImage (Ok text) read = (c : CleanImage) × (read ≡ Ok c) × (text.items ≡ dump c)
DumpsImage (Err e) read = IsReported e read
