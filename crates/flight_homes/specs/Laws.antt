-- What the calls of laws state.
use Rattle.std.specs.Prelude.{◌≡◌, ℕ, Bool, true, Some, slice_get}
use Rattle.region_forms.specs.Form.{RegionFunction, Regions}
use Rattle.region_forms.specs.WellFormed.{function_test, is_well_formed}
use Rattle.linear_forms.specs.Tables.{sense_in}
use Rattle.linear_forms.specs.Filters.{types_in, lists_in}
use Rattle.linear_forms.specs.Unit.{emitting, function_code, unit_of}
use Rattle.linear_forms.specs.UnitRun.{code_of}
use Rattle.flight_homes.specs.Homes.{AreHomes}
use Rattle.flight_homes.specs.Keeps.{Carrying}
use Rattle.flight_homes.specs.Places.{home_in, left_in}

-- Each well-formed function has places at which a call carries what a pad caught, and what its operations say of homes and filters is right there.
abbrev pub HomesAreFound : Type 0
HomesAreFound = (r : Regions) (f : RegionFunction) → function_test r f ≡ true →
    (carries : ℕ → Bool) × AreHomes r.types (sense_in (types_in f.body) (lists_in f.body)) f carries (home_in (function_code f)) (left_in (function_code f))

-- the places of each function of regions
pub record AreCarrying (r : Regions) (k : Carrying) : Type 0 where
  pub homes : (n : ℕ) (f : RegionFunction) → slice_get r.functions n ≡ Some f → AreHomes r.types ((code_of (unit_of r)).sense_at n) f (k.carries n) (k.home n) (k.left n)
  pub slots : (n : ℕ) (f : RegionFunction) → slice_get r.functions n ≡ Some f → (k.object n ≡ (emitting f).object) × (k.selector n ≡ (emitting f).selector)

-- every well-formed program has such places
abbrev pub ProgramsCarry : Type 0
ProgramsCarry = (r : Regions) → is_well_formed r ≡ true → (k : Carrying) × AreCarrying r k
