-- Frames that a run does not change.
use Rattle.std.specs.Prelude.{◌≡◌, ⊤, List}
use Rattle.rv64_isa.specs.State.{State}
use Rattle.table_forms.specs.Fde.{Fde}
use Rattle.frame_read.specs.ReadsFrames.{Listing}
use Rattle.raise_core.specs.declared.raised.Raised.{Raised}
use Rattle.raise_core.specs.declared.raised.Raised.TheVariants.{Install}
use Rattle.raise_core.specs.Reads.{AreTables}
use Rattle.cxa_runtime.specs.Frozen.{frozen}

-- a hart, and the frames that were read of its tables
pub record Walked : Type 0 where
  pub hart : State
  pub frames : Listing

-- these frames are what is read of the tables, whatever is written where memory may be written
abbrev pub AreLasting : State → Listing → Type 0
AreLasting s frames = (t : State) → frozen t.memory ≡ frozen s.memory → AreTables t frames

-- where no landing pad is entered, nothing has changed
abbrev pub StaysUnlessEntered : Raised → Walked → Walked → Type 0
StaysUnlessEntered (Install pad selector cfa lsda) old new = ⊤
StaysUnlessEntered _ old new = new ≡ old

-- the same, and what is read are these FDEs
abbrev pub LastsAs : State → Listing → List Fde → Type 0
LastsAs s frames fdes = (t : State) → frozen t.memory ≡ frozen s.memory → (tables : AreTables t frames) × (tables.read.fdes ≡ fdes)
