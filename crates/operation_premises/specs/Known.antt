-- What the calls of laws state.
use Rattle.std.specs.Prelude.{◌≡◌, ◌^◌, ◌<◌, ℕ, true, Some, slice_get}
use Rattle.region_forms.specs.Form.{RegionFunction, Regions}
use Rattle.region_forms.specs.WellFormed.{is_well_formed}
use Rattle.linear_forms.specs.Linear.{FunctionCode, LinearOp}
use Rattle.linear_forms.specs.Frame.{code_slots}
use Rattle.linear_forms.specs.Unit.{unit_of}
use Rattle.machine_simulation.specs.Matches.{FrameIs}
use Rattle.address_bounds.specs.Everywhere.{RegionAll, holders}
use Rattle.address_bounds.specs.Reaches.{Needs, RegionReaches}
use Rattle.operation_premises.specs.Ints.{ints}
use Rattle.operation_premises.specs.Static.{LinearStatic}

-- What is known of regions: they are well-formed, their ints lie inside what their addresses begin at, their numbers are ints, they
-- hold fewer than 2^31 others, and frames are small and as they are laid out.
pub record IsKnown (r : Regions) (needs : Needs) : Type 0 where
  pub formed : is_well_formed r ≡ true
  pub reach : (n : ℕ) (f : RegionFunction) → slice_get r.functions n ≡ Some f → RegionReaches needs (needs n) (code_slots f) f.body
  pub ints : (n : ℕ) (f : RegionFunction) → slice_get r.functions n ≡ Some f → RegionAll ints f.body
  pub few : (n : ℕ) (f : RegionFunction) → slice_get r.functions n ≡ Some f → holders f.body < 2 ^ 31
  pub frames : (n : ℕ) (g : FunctionCode) → slice_get (unit_of r).functions n ≡ Some g → FrameIs g

-- Each operation of their linear code asks for slots, offsets and numbers that are there.
abbrev pub CodeIsStatic : Type 0
CodeIsStatic = (r : Regions) (needs : Needs) → IsKnown r needs → (n place : ℕ) (g : FunctionCode) (o : LinearOp) → slice_get (unit_of r).functions n ≡ Some g → slice_get g.ops place ≡ Some o →
    LinearStatic (unit_of r) g o
