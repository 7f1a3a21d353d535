-- Header and frames together (LSB Core, "The .eh_frame_hdr section"): their lists, or the first refusal.
use Rattle.std.specs.Prelude.{ℕ, ◌+◌, ◌-◌, ◌==◌, ◌&&◌, ◌||◌, nat_lt, nat_le, Bool, true, List, [], ◌∷◌, ◌++◌, Option, Some, None, Result, Err, if◌then◌else◌}
use Rattle.eh_bytes.specs.declared.frames.HdrRow.{HdrRow}
use Rattle.eh_bytes.specs.Memory.{Part, Memory, part_with}
use Rattle.table_forms.specs.declared.reason.Reason.TheVariants.{FrameTruncated, HeaderDisagrees}
use Rattle.table_forms.specs.Fault.{Fault, fault, ◌>>=◌, least, answer}
use Rattle.table_forms.specs.Cie.{Cie}
use Rattle.table_forms.specs.Fde.{Fde}
use Rattle.table_forms.specs.Parts.{Parts, parts_at}
use Rattle.table_forms.specs.Header.{header_at}

-- the CIEs and the FDEs in the order of their places
pub record Frames : Type 0 where
  pub cies : List Cie
  pub fdes : List Fde

-- the earlier of two FDEs has the lesser location, or the same and the lesser place
abbrev pub is_earlier : Fde → Fde → Bool
is_earlier f g =
    nat_lt f.region.start g.region.start || (f.region.start == g.region.start && nat_le f.place g.place)

abbrev pub put_in : Fde → List Fde → List Fde
put_in f [] = f ∷ []
put_in f (g ∷ gs) = if is_earlier f g then f ∷ g ∷ gs else g ∷ put_in f gs

-- in rising order of location, then place
abbrev pub sorted : List Fde → List Fde
sorted [] = []
sorted (f ∷ fs) = put_in f (sorted fs)

abbrev pub differs : ℕ → ℕ → ℕ → Fault
differs place location other = record { reason = HeaderDisagrees; place = place; location = location; other = other }

-- the table is not the list of the sorted FDEs: refused at the first row that differs or at the table's end; 0 is the location of the one that is missing
abbrev pub disagreement : ℕ → List HdrRow → List Fde → Option Fault
disagreement place [] [] = None
disagreement place [] (f ∷ fs) = Some (differs place 0 f.region.start)
disagreement place (r ∷ rs) [] = Some (differs place r.location 0)
disagreement place (r ∷ rs) (f ∷ fs) =
    if r.location == f.region.start && r.fde == f.address then disagreement (place + 8) rs fs
    else Some (differs place r.location f.region.start)

abbrev pub table_disagreement : ℕ → Option (List HdrRow) → List Fde → Option Fault
table_disagreement place None fdes = None
table_disagreement place (Some rows) fdes = disagreement place rows (sorted fdes)

-- refused at the pointer, where it leads to no segment
abbrev pub parts_in : ℕ → Option Part → ℕ → Parts
parts_in pointer_place None a = record { cies = []; fdes = []; faults = fault FrameTruncated pointer_place ∷ [] }
parts_in pointer_place (Some part) a = parts_at part (a - part.address)

abbrev pub parts_behind : Memory → ℕ → Option ℕ → Parts
parts_behind memory pointer_place None = record { cies = []; fdes = []; faults = [] }
parts_behind memory pointer_place (Some a) = parts_in pointer_place (part_with memory a) a

-- the table is compared only where nothing else is refused
unfoldable pub frames_in : Memory → ℕ → Part → Result Frames Fault
frames_in memory p part =
    let header = header_at part p in
    let parts = parts_behind memory (part.file_at + (p + 4)) header.frames_at in
    do
      whole ← answer (least (header.faults ++ parts.faults)) true
      answer (table_disagreement (part.file_at + (p + 12)) header.rows parts.fdes) (record { cies = parts.cies; fdes = parts.fdes })

abbrev pub frames_from : Memory → ℕ → Option Part → Result Frames Fault
frames_from memory header None = Err (fault FrameTruncated 0)
frames_from memory header (Some part) = frames_in memory (header - part.address) part

-- the frames whose header stands at an address. Refused at 0 where no part holds the address
unfoldable pub frames : Memory → ℕ → Result Frames Fault
frames memory header = frames_from memory header (part_with memory header)
