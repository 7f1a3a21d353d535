-- Runnable images (profile): clean ones that may be run, whose frames and exception tables lie where nothing is written.
use Rattle.std.specs.Prelude.{ℕ, ◌+◌, ◌-◌, ◌==◌, not, true, List, [], ◌++◌, flat_map, Option, Some, None, Result, if◌then◌else◌}
use Rattle.eh_bytes.specs.Memory.{Part, Memory, part_with}
use Rattle.table_forms.specs.declared.reason.Reason.TheVariants.{TableWritable}
use Rattle.table_forms.specs.Fault.{Fault, ◌>>=◌, unless, least, answer}
use Rattle.table_forms.specs.Header.{header_at}
use Rattle.elf_image.specs.Clean.{Function, CleanImage, judged}

-- refused at its place in the file, where the address lies in a segment with write
abbrev pub written_in : Option Part → ℕ → List Fault
written_in None a = []
written_in (Some part) a = unless (not part.write) TableWritable (part.file_at + (a - part.address))

abbrev pub written_at : Memory → ℕ → List Fault
written_at memory a = written_in (part_with memory a) a

abbrev pub frames_written : Memory → Option ℕ → List Fault
frames_written memory None = []
frames_written memory (Some a) = written_at memory a

-- where a header leads
abbrev pub start_in : ℕ → Option Part → Option ℕ
start_in header None = None
start_in header (Some part) = (header_at part (header - part.address)).frames_at

abbrev pub frames_start : Memory → ℕ → Option ℕ
frames_start memory header = start_in header (part_with memory header)

abbrev pub table_written : Memory → Function → List Fault
table_written memory f = if f.fde.lsda == 0 then [] else written_at memory f.fde.lsda

-- the header, the frames and each exception table
unfoldable pub written_faults : CleanImage → List Fault
written_faults i =
    let memory = i.image.memory in
    written_at memory i.image.frame_header ++ frames_written memory (frames_start memory i.image.frame_header) ++
    flat_map (table_written memory) i.functions

unfoldable pub runnable : List ℕ → Result CleanImage Fault
runnable file = do
  i ← judged file true
  answer (least (written_faults i)) i
