-- What a header says, as the definition has it.
use Rattle.std.specs.Prelude.{ℕ, List, ◌++◌, Vec, Option, option_map}
use Rattle.std.specs.Global.{Global}
use Rattle.eh_bytes.specs.declared.frames.HdrRow.{HdrRow}
use Rattle.eh_bytes.specs.Memory.{Part}
use Rattle.table_forms.specs.Fault.{Fault, least}
use Rattle.table_forms.specs.Header as forms
use Rattle.table_forms.specs.Seen.{fault_of}
use Rattle.frame_read.specs.SeenSpan.{cut_of}
use Rattle.table_forms.specs.declared.refusal.Refusal.{Refusal}
use Rattle.frame_read.specs.declared.header_read.Encodings.{Encodings}
use Rattle.frame_read.specs.declared.header_read.HeaderRead.{HeaderRead}

abbrev pub encodings_seen : Encodings → forms.Encodings
encodings_seen e = record { pointer = e.pointer; count = e.count; table = e.table }

abbrev pub rows_seen : Vec HdrRow Global × Option Refusal → forms.Rows
rows_seen r = record { rows = r.0.items; cut = cut_of r.1 }

-- a header with the refusal that answers of all
pub record Summary : Type 0 where
  pub frames_at : Option ℕ
  pub rows : Option (List HdrRow)
  pub least : Option Fault

abbrev pub summary : forms.Header → Summary
summary h = record { frames_at = h.frames_at; rows = h.rows; least = least h.faults }

abbrev pub header_seen : HeaderRead → Summary
header_seen h = record { frames_at = h.frames_at; rows = option_map (λ rows. rows.items) h.rows; least = option_map fault_of h.least }

abbrev pub behind_rows : List HdrRow → forms.Rows → forms.Rows
behind_rows read rest = record { rows = read ++ rest.rows; cut = rest.cut }

-- the rows read, and those from a place on, so many
abbrev pub row_rest : Part → ℕ → List HdrRow → ℕ → ℕ → forms.Rows
row_rest part start read n p = behind_rows read (forms.rows_within n part start p)
