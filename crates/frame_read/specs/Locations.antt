-- The locations of an FDE's rows, in rising order (DWARF 5, 6.4.3).
use Rattle.std.specs.Prelude.{ℕ, zero, suc, List, [], ◌∷◌, ◌++◌, filter, Option, Some, None}
use Rattle.table_forms.specs.Row.{locations_from}
use Rattle.table_forms.specs.Fde.{Fde, is_in, next_location}

-- at most so many: a location, and the next ones, one after the other
unfoldable pub locations_within : ℕ → Fde → Option ℕ → List ℕ
locations_within zero f pc = []
locations_within (suc n) f None = []
locations_within (suc n) f (Some pc) = pc ∷ locations_within n f (next_location f pc)

-- from the start of the region on; an empty region has none
abbrev pub locations : Fde → List ℕ
locations f = locations_within f.region.length f (Some f.region.start)

-- the same as they are reached: the start, and where the instructions of the CIE and then its own move to, inside the region
abbrev pub reached_by : Fde → List ℕ
reached_by f = filter (is_in f.region) (f.region.start ∷ locations_from f.region.start (f.cie.instructions ++ f.instructions))
