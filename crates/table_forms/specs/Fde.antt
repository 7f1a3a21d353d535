-- Frame description entries (DWARF 5, 6.4.1; LSB Core, "The Frame Description Entry Format"), and their regions.
use Rattle.std.specs.Prelude.{ℕ, ◌+◌, ◌^◌, ◌%◌, ◌&&◌, nat_lt, nat_le, Bool, List, [], ◌∷◌, ◌++◌, find, Option, Some, None, Result, Ok}
use Rattle.eh_bytes.specs.declared.frames.Region64.{Region64}
use Rattle.eh_bytes.specs.Memory.{Part}
use Rattle.eh_bytes.specs.Encoded.{encoded}
use Rattle.table_forms.specs.declared.found.Row.{Row}
use Rattle.table_forms.specs.declared.reason.Reason.TheVariants.{FrameTruncated}
use Rattle.table_forms.specs.Fault.{Fault, ◌>>=◌, demand}
use Rattle.table_forms.specs.Instruction.{Instruction, in_frames}
use Rattle.table_forms.specs.Instructions.{instructions_at}
use Rattle.table_forms.specs.Cie.{Cie, sized_at}
use Rattle.table_forms.specs.Row.{row_of, next_location_of}

-- an FDE with its CIE: the address of its first byte, its place in the file, its region, and its LSDA's address or 0
pub record Fde : Type 0 where
  pub address : ℕ
  pub place : ℕ
  pub region : Region64
  pub lsda : ℕ
  pub cie : Cie
  pub instructions : List Instruction

-- the first location in the CIE's encoding, and the length in its format alone. Refused at the length, where the region ends above 2^64 - 1
unfoldable pub region_at : Cie → Part → ℕ → ℕ → Result (Region64 × ℕ) Fault
region_at cie part stop p = do
  start ← in_frames (encoded cie.coding.encoding (part.address + p)) part stop p
  len ← in_frames (encoded (cie.coding.encoding % 16) 0) part stop start.1
  ends ← demand (nat_lt (start.0.value + len.0.value) (2 ^ 64)) FrameTruncated (part.file_at + start.1)
  Ok (record { start = start.0.value; length = len.0.value }, len.1)

abbrev pub lsda_pointer : Option ℕ → Part → ℕ → ℕ → Result ℕ Fault
lsda_pointer None part stop p = Ok 0
lsda_pointer (Some e) part stop p = do
  pointer ← in_frames (encoded e (part.address + p)) part stop p
  Ok pointer.0.value

-- with an augmentation its data has the LSDA's pointer; the address of the LSDA, and the place of the instructions
abbrev pub lsda_at : List ℕ → Cie → Part → ℕ → ℕ → Result (ℕ × ℕ) Fault
lsda_at [] cie part stop p = Ok (0, p)
lsda_at (z ∷ letters) cie part stop p = do
  data' ← sized_at part stop p
  lsda ← lsda_pointer cie.lsda_encoding part data'.1 data'.0
  Ok (lsda, data'.1)

-- the FDE of a CIE whose length stands at `at`, and whose first location at p
unfoldable pub fde_at : Cie → Part → ℕ → ℕ → ℕ → Result Fde Fault
fde_at cie part at stop p = do
  region ← region_at cie part stop p
  lsda ← lsda_at cie.augmentation cie part stop region.1
  is ← instructions_at cie.coding part stop lsda.1 cie.states
  Ok (record {
    address = part.address + at;
    place = part.file_at + at;
    region = region.0;
    lsda = lsda.0;
    cie = cie;
    instructions = is.list;
  })

-- the place lies in the region
abbrev pub is_in : Region64 → ℕ → Bool
is_in region a = nat_le region.start a && nat_lt a (region.start + region.length)

-- some place lies in both; an empty region overlaps nothing
abbrev pub overlap : Region64 → Region64 → Bool
overlap r s =
    nat_lt 0 r.length && nat_lt 0 s.length && nat_lt r.start (s.start + s.length) && nat_lt s.start (r.start + r.length)

-- the FDE whose region holds the place
abbrev pub fde_for : List Fde → ℕ → Option Fde
fde_for fdes a = find (λ f. is_in f.region a) fdes

-- the row of a place in the region
abbrev pub row_at : Fde → ℕ → Row
row_at f pc = row_of f.region.start f.cie.instructions f.instructions pc

-- the least location above a place, inside the region, to which its instructions or those of its CIE move
abbrev pub next_location : Fde → ℕ → Option ℕ
next_location f pc = next_location_of f.region.start f.region.length (f.cie.instructions ++ f.instructions) pc
