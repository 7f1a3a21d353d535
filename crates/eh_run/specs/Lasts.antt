-- Tables that no program writes.
use Rattle.std.specs.Prelude.{◌≡◌}
use Rattle.rv64_isa.specs.State.{State}
use Rattle.frame_read.specs.ReadsFrames.{Listing}
use Rattle.raise_core.specs.Reads.{AreTables}
use Rattle.cxa_runtime.specs.Frozen.{frozen}
use Rattle.eh_run.specs.Program.{Program}

-- whatever is written where it may be, these FDEs are read, and each exception table that they name can be read
abbrev pub TablesLast : Program → Type 0
TablesLast program =
    (s : State) → frozen s.memory ≡ frozen program.hart.memory → (frames : Listing) × (tables : AreTables s frames) × (tables.read.fdes ≡ program.image.fdes)
