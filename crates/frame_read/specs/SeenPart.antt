-- What parts say, as the definitions have it.
use Rattle.std.specs.Prelude.{ℕ, List, map, Result}
use Rattle.eh_bytes.specs.Memory.{Part}
use Rattle.table_forms.specs.Fault.{Fault}
use Rattle.table_forms.specs.Cie.{Cie}
use Rattle.table_forms.specs.Parts as forms
use Rattle.table_forms.specs.Seen.{fault_of}
use Rattle.frame_read.specs.Reads.{result_seen}
use Rattle.frame_read.specs.SeenCie.{cie_seen}
use Rattle.frame_read.specs.SeenFde.{fde_seen}
use Rattle.frame_read.specs.declared.entry.CieEntry.{CieEntry}
use Rattle.frame_read.specs.declared.entry.Said.{Said}
use Rattle.frame_read.specs.declared.entry.Said.TheVariants as found

abbrev pub entry_seen : Part → CieEntry → ℕ × Result Cie Fault
entry_seen part e = (e.at, result_seen (cie_seen part) e.read)

abbrev pub entries_seen : Part → List CieEntry → List (ℕ × Result Cie Fault)
entries_seen part entries = map (entry_seen part) entries

abbrev pub said_seen : Part → Said → forms.Said
said_seen part (found.Refused e) = forms.refused (fault_of e)
said_seen part (found.Cie c) = forms.said_cie (cie_seen part c)
said_seen part (found.Fde f c) = forms.said_fde (fde_seen part (cie_seen part c) f)
said_seen part found.Unread = forms.unread
