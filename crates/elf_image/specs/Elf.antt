-- An ELF file: the entry, the memory, and what it names, or the first refusal.
use Rattle.std.specs.Prelude.{ℕ, Bool, true, false, List, [], ◌++◌, length, Option, option_map, unwrap_or, is_some, Result}
use Rattle.std.specs.Int.{w64}
use Rattle.eh_bytes.specs.Memory.{Memory}
use Rattle.table_forms.specs.declared.reason.Reason.TheVariants.{NoFrames, NoRuntime}
use Rattle.table_forms.specs.Fault.{Fault, ◌>>=◌, unless, least, answer}
use Rattle.elf_image.specs.declared.program.ProgramHeader.{ProgramHeader}
use Rattle.eh_bytes.specs.declared.unit.RuntimeRecord.{RuntimeRecord}
use Rattle.elf_image.specs.Numbers.{field}
use Rattle.elf_image.specs.Header.{header_faults}
use Rattle.elf_image.specs.Programs.{headers_of, loaded, frames_header, runtime_header}
use Rattle.elf_image.specs.Loads.{memory_in, load_faults, low_faults, is_within}
use Rattle.elf_image.specs.Runtime.{has_table, runtime_faults, runtime_of}

pub record Image : Type 0 where
  pub entry : ℕ
  pub memory : Memory
  pub frame_header : ℕ
  pub runtime : Option RuntimeRecord

abbrev pub image_of : List ℕ → List ProgramHeader → Image
image_of file headers = record {
  entry = field w64 file 24;
  memory = memory_in file headers;
  frame_header = unwrap_or (option_map (λ h. h.address) (frames_header headers)) 0;
  runtime = option_map (runtime_of file) (runtime_header headers);
}

-- refused at 0, where no PT_GNU_EH_FRAME lies inside a PT_LOAD
unfoldable pub segment_faults : List ℕ → List ProgramHeader → List Fault
segment_faults file headers =
    load_faults (length file) 0 [] (loaded headers) ++ unless (is_within (loaded headers) (frames_header headers)) NoFrames 0 ++
    runtime_faults file (loaded headers) (runtime_header headers)

-- to run: refused where a segment is out of reach, and at 0 without a table or a record for the runtime
unfoldable pub run_faults : List ℕ → List ProgramHeader → List Fault
run_faults file headers =
    low_faults 0 (loaded headers) ++ unless (has_table file (loaded headers) (frames_header headers)) NoFrames 0 ++
    unless (is_some (runtime_header headers)) NoRuntime 0

abbrev pub faults_to_run : Bool → List ℕ → List ProgramHeader → List Fault
faults_to_run false file headers = []
faults_to_run true file headers = run_faults file headers

-- the program headers are read only where the header is as it should be
unfoldable pub elf : List ℕ → Bool → Result Image Fault
elf file to_run = do
  whole ← answer (least (header_faults file)) true
  let headers = headers_of file in answer (least (segment_faults file headers ++ faults_to_run to_run file headers)) (image_of file headers)
