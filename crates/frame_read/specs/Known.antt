-- An FDE that was read before, with its CIE, by what stands before their instructions.
use Rattle.std.specs.Prelude.{◌≡◌, ◌≤◌, ℕ, List, length, Ok}
use Rattle.eh_bytes.specs.Memory.{Part}
use Rattle.table_forms.specs.Instructions.{Instructions, instructions_at}
use Rattle.table_forms.specs.Fde.{Fde}
use Rattle.frame_read.specs.Seen.{coding_seen}
use Rattle.frame_read.specs.Heads.{cie_with, fde_with}
use Rattle.frame_read.specs.declared.lookup.FdeHere.{FdeHere}

-- where their instructions lie
pub record HasPlaces (bytes : List ℕ) (h : FdeHere) : Type 0 where
  pub stop : h.cie.stop ≤ length bytes
  pub first : h.cie.first ≤ h.cie.stop
  pub own_stop : h.fde.stop ≤ length bytes
  pub own_first : h.fde.first ≤ h.fde.stop

-- with their instructions they are this FDE
pub record IsKnown (part : Part) (h : FdeHere) (f : Fde) : Type 0 where
  pub common : Instructions
  pub own : Instructions
  pub common_read : instructions_at (coding_seen h.cie.coding) part h.cie.stop h.cie.first 0 ≡ Ok common
  pub own_read : instructions_at (coding_seen h.cie.coding) part h.fde.stop h.fde.first common.states ≡ Ok own
  pub same : f ≡ fde_with part (cie_with part h.cie common) h.fde own
