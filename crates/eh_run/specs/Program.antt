-- What is run of an image: what the runtime knows of it, and the hart as a run begins.
use Rattle.std.specs.Prelude.{ℕ, List, [], map, Result, Ok, Err, unwrap_or}
use Rattle.eh_bytes.specs.declared.unit.RuntimeRecord.{RuntimeRecord}
use Rattle.eh_bytes.specs.Memory as read
use Rattle.table_forms.specs.Fault.{Fault}
use Rattle.table_forms.specs.Fde.{Fde}
use Rattle.table_forms.specs.Frames.{Frames, frames}
use Rattle.rv64_isa.specs.State.{State, Part}
use Rattle.rv64_machine.specs.Initial.{initial}
use Rattle.elf_image.specs.Elf as elf
use Rattle.elf_image.specs.Clean.{CleanImage}
use Rattle.cxa_runtime.specs.Raising.{Image}

pub record Program : Type 0 where
  pub image : Image
  pub hart : State

-- the FDEs to which a header leads, in the order of their places
abbrev pub fdes_in : Result Frames Fault → List Fde
fdes_in (Ok read) = read.fdes
fdes_in (Err f) = []

unfoldable pub fdes_of : read.Memory → ℕ → List Fde
fdes_of memory header = fdes_in (frames memory header)

abbrev pub part_run : read.Part → Part
part_run p = record { address = p.address; bytes = p.bytes; file_at = p.file_at; write = p.write; exec = p.exec }

-- at the entry, over the image's segments; all registers are 0 but sp (profile)
abbrev pub hart_of : elf.Image → State
hart_of i = record (initial (map part_run i.memory)) { pc = i.entry }

-- of an image without a record for the runtime
abbrev pub no_places : RuntimeRecord
no_places = record { terminate = 0; bad_exception = 0 }

abbrev pub program_of : CleanImage → Program
program_of i = record {
  image = record { fdes = fdes_of i.image.memory i.image.frame_header; places = unwrap_or i.image.runtime no_places };
  hart = hart_of i.image;
}
