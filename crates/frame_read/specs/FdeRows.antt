-- The rows of an FDE: where they are, and a walk that gives them.
use Rattle.std.specs.Prelude.{◌≡◌, ◌+◌, ◌<◌, ℕ, length, Some}
use Rattle.eh_bytes.specs.Memory.{Part, Memory}
use Rattle.table_forms.specs.Cie.{Cie}
use Rattle.table_forms.specs.Fde.{Fde}
use Rattle.frame_read.specs.CieFolds.{cie_in}
use Rattle.frame_read.specs.Entry.{cie_here}
use Rattle.frame_read.specs.Locations.{locations}
use Rattle.frame_read.specs.RowWalk.{IsWalk}
use Rattle.frame_read.specs.declared.fde_rows.FdeRows.{FdeRows}

-- its locations, in rising order, and a walk that has come to the start of its region
pub record AreRows (r : FdeRows) (f : Fde) : Type 0 where
  pub at : r.locations.items ≡ locations f
  pub walk : IsWalk r.walk f f.region.start

-- the CIEs of a part are those of a memory at their addresses
abbrev pub HasCies : Memory → Part → Type 0
HasCies memory part = (at : ℕ) (cie : Cie) → at < length part.bytes → cie_here part at ≡ Some cie → cie_in memory (part.address + at) ≡ Some cie
