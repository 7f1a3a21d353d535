-- An FDE that was read with its CIE, by what its instructions need.
use Rattle.std.specs.Prelude.{◌≡◌, ◌<◌, ◌≤◌, ◌+◌, ◌^◌, ℕ, List, length, Ok, IsOk}
use Rattle.eh_bytes.specs.Memory.{Part}
use Rattle.table_forms.specs.Instructions.{instructions_at}
use Rattle.table_forms.specs.Fde.{Fde}
use Rattle.frame_read.specs.Seen.{coding_seen}
use Rattle.frame_read.specs.SeenCie.{cie_seen}
use Rattle.frame_read.specs.SeenFde.{fde_seen}
use Rattle.frame_read.specs.States.{states_of}
use Rattle.frame_read.specs.declared.lookup.FdeHere.{FdeHere}

abbrev pub here_seen : Part → FdeHere → Fde
here_seen part h = fde_seen part (cie_seen part h.cie) h.fde

pub record IsReady (bytes : List ℕ) (part : Part) (h : FdeHere) : Type 0 where
  pub stop : h.cie.stop ≤ length bytes
  pub first : h.cie.first ≤ h.cie.stop
  pub own_stop : h.fde.stop ≤ length bytes
  pub own_first : h.fde.first ≤ h.fde.stop
  pub whole : states_of (instructions_at (coding_seen h.cie.coding) part h.cie.stop h.cie.first 0) ≡ Ok h.cie.states
  pub ends : h.fde.region.start + h.fde.region.length < 2 ^ 64
  pub own : IsOk (instructions_at (coding_seen h.cie.coding) part h.fde.stop h.fde.first h.cie.states)
