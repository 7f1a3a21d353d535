-- The header of the frames (LSB Core, "The .eh_frame_hdr section"): a pointer to them, and a table of the FDEs to search.
use Rattle.std.specs.Prelude.{ℕ, zero, suc, ◌+◌, ◌%◌, ◌^◌, ◌==◌, ◌&&◌, ◌||◌, Bool, true, false, List, [], ◌∷◌, ◌++◌, length, Option, Some, None, Result, Ok, Err, if◌then◌else◌}
use Rattle.std.specs.Int.{w32}
use Rattle.eh_bytes.specs.declared.frames.HdrRow.{HdrRow}
use Rattle.eh_bytes.specs.Memory.{Part}
use Rattle.eh_bytes.specs.Field.{Field, byte, fixed}
use Rattle.eh_bytes.specs.Encoded.{extended}
use Rattle.table_forms.specs.declared.reason.Reason.TheVariants.{Encoding, Version}
use Rattle.table_forms.specs.Fault.{Fault, ◌>>=◌, demand, unless}
use Rattle.table_forms.specs.Instruction.{in_frames}

-- what can be read of a header at a place: the frames' address with the pointer's place, the rows, where the table begins, and what is refused
pub record Header : Type 0 where
  pub frames_at : Option ℕ
  pub rows : Option (List HdrRow)
  pub faults : List Fault

abbrev pub unread_header : List Fault → Header
unread_header faults = record { frames_at = None; rows = None; faults = faults }

-- the three encodings behind the version. The version is 1
pub record Encodings : Type 0 where
  pub pointer : ℕ
  pub count : ℕ
  pub table : ℕ

abbrev pub in_header : {A : Type 0} → Field A → Part → ℕ → Result (A × ℕ) Fault
in_header field part p = in_frames field part (length part.bytes) p

unfoldable pub encodings_at : Part → ℕ → Result Encodings Fault
encodings_at part p = do
  version ← in_header byte part p
  known ← demand (version.0 == 1) Version (part.file_at + p)
  pointer ← in_header byte part (p + 1)
  count ← in_header byte part (p + 2)
  table ← in_header byte part (p + 3)
  Ok (record { pointer = pointer.0; count = count.0; table = table.0 })

-- there is no table
abbrev pub is_bare : Encodings → Bool
is_bare e = e.count == 0xff && e.table == 0xff

-- the pointer is 0x1b, and count and table are 0x03 and 0x3b, or both 0xff
abbrev pub encoding_faults : Part → ℕ → Encodings → List Fault
encoding_faults part p e =
    unless (e.pointer == 0x1b) Encoding (part.file_at + (p + 1)) ++ unless (is_bare e || e.count == 0x03) Encoding (part.file_at + (p + 2)) ++
    unless (is_bare e || e.table == 0x3b) Encoding (part.file_at + (p + 3))

-- a row's two numbers count from the header's start, modulo 2^64
abbrev pub from_start : ℕ → ℕ → ℕ
from_start start n = (start + extended 4 n) % 2 ^ 64

abbrev pub row_in : Part → ℕ → ℕ → Result HdrRow Fault
row_in part start p = do
  location ← in_header (fixed w32) part p
  fde ← in_header (fixed w32) part location.1
  Ok (record { location = from_start start location.0; fde = from_start start fde.0 })

-- rows, and the refusal of the first that is cut
pub record Rows : Type 0 where
  pub rows : List HdrRow
  pub cut : List Fault

abbrev pub no_rows : List Fault → Rows
no_rows cut = record { rows = []; cut = cut }

abbrev pub and_rows : HdrRow → Rows → Rows
and_rows r rest = record { rows = r ∷ rest.rows; cut = rest.cut }

abbrev pub rows_from : Result HdrRow Fault → (ℕ → Rows) → ℕ → Rows
rows_from (Err f) more next = no_rows (f ∷ [])
rows_from (Ok r) more next = and_rows r (more next)

-- so many rows
unfoldable pub rows_within : ℕ → Part → ℕ → ℕ → Rows
rows_within zero part start p = no_rows []
rows_within (suc n) part start p = rows_from (row_in part start p) (rows_within n part start) (p + 8)

abbrev pub counted_rows : Part → ℕ → ℕ → Result (ℕ × ℕ) Fault → Rows
counted_rows part start p (Err f) = no_rows (f ∷ [])
counted_rows part start p (Ok (n, next)) = rows_within n part start next

-- the count and the table behind the pointer, where their encodings are right
abbrev pub table_rows : Bool → Part → ℕ → ℕ → Option Rows
table_rows false part start p = None
table_rows true part start p = Some (counted_rows part start p (in_header (fixed w32) part p))

abbrev pub with_rows : Option ℕ → List Fault → Option Rows → Header
with_rows frames_at faults None = record { frames_at = frames_at; rows = None; faults = faults }
with_rows frames_at faults (Some r) = record { frames_at = frames_at; rows = Some r.rows; faults = faults ++ r.cut }

-- with the address of the frames, where its encoding is right
abbrev pub with_pointer : Part → ℕ → Encodings → Result (ℕ × ℕ) Fault → Header
with_pointer part p e (Err f) = unread_header (encoding_faults part p e ++ f ∷ [])
with_pointer part p e (Ok (n, next)) =
    with_rows
    (if e.pointer == 0x1b then Some (if n == 0 then 0 else (part.address + (p + 4) + extended 4 n) % 2 ^ 64) else None)
    (encoding_faults part p e)
    (table_rows (e.count == 0x03 && e.table == 0x3b) part (part.address + p) next)

abbrev pub with_encodings : Part → ℕ → Result Encodings Fault → Header
with_encodings part p (Err f) = unread_header (f ∷ [])
with_encodings part p (Ok e) = with_pointer part p e (in_header (fixed w32) part (p + 4))

-- the header at a place of the part
unfoldable pub header_at : Part → ℕ → Header
header_at part p = with_encodings part p (encodings_at part p)
