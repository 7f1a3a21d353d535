-- The FDEs as they are listed, in the order of their locations, against the header's table.
use Rattle.std.specs.Prelude.{ℕ, ◌+◌, ◌==◌, ◌&&◌, List, [], ◌∷◌, Option, Some, None, if◌then◌else◌}
use Rattle.eh_bytes.specs.declared.frames.HdrRow.{HdrRow}
use Rattle.table_forms.specs.Fault.{Fault}
use Rattle.table_forms.specs.Frames.{differs}
use Rattle.frame_read.specs.Rises.{RisesBy}
use Rattle.frame_read.specs.declared.listed.Fde.{Fde}

-- where the table begins here, the first row that is not that of the FDE
abbrev pub disagrees : ℕ → List HdrRow → List Fde → Option Fault
disagrees place [] [] = None
disagrees place [] (f ∷ fs) = Some (differs place 0 f.region.start)
disagrees place (r ∷ rs) [] = Some (differs place r.location 0)
disagrees place (r ∷ rs) (f ∷ fs) =
    if r.location == f.region.start && r.fde == f.address then disagrees (place + 8) rs fs
    else Some (differs place r.location f.region.start)

-- places rise, and the first is at n or above
abbrev pub PlacesRise : ℕ → List Fde → Type 0
PlacesRise n fs = RisesBy (λ (f : Fde). f.place) n fs
