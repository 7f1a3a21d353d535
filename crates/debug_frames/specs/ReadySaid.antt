-- What parts say, by what the instructions in it need.
use Rattle.std.specs.Prelude.{◌≡◌, ◌≤◌, ℕ, ⊤, List, length, All, Result, Ok, Err}
use Rattle.eh_bytes.specs.Memory.{Part}
use Rattle.table_forms.specs.Instructions.{instructions_at}
use Rattle.table_forms.specs.declared.refusal.Refusal.{Refusal}
use Rattle.frame_read.specs.Seen.{coding_seen}
use Rattle.frame_read.specs.States.{states_of}
use Rattle.frame_read.specs.Ready.{IsReady}
use Rattle.frame_read.specs.declared.cie_part.CiePart.{CiePart}
use Rattle.frame_read.specs.declared.entry.CieEntry.{CieEntry}
use Rattle.frame_read.specs.declared.entry.Said.{Said}
use Rattle.frame_read.specs.declared.entry.Said.TheVariants as found

-- a CIE that can be read again
pub record IsReadyCie (bytes : List ℕ) (part : Part) (c : CiePart) : Type 0 where
  pub stop : c.stop ≤ length bytes
  pub first : c.first ≤ c.stop
  pub whole : states_of (instructions_at (coding_seen c.coding) part c.stop c.first 0) ≡ Ok c.states

abbrev pub IsReadyRead : List ℕ → Part → Result CiePart Refusal → Type 0
IsReadyRead bytes part (Ok c) = IsReadyCie bytes part c
IsReadyRead bytes part (Err e) = ⊤

abbrev pub AreReadyEntries : List ℕ → Part → List CieEntry → Type 0
AreReadyEntries bytes part entries = All (λ e. IsReadyRead bytes part e.read) entries

abbrev pub IsReadySaid : List ℕ → Part → Said → Type 0
IsReadySaid bytes part (found.Fde f c) = IsReady bytes part (record { cie = c; fde = f })
IsReadySaid bytes part _ = ⊤
