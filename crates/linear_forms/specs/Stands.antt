-- What stands in a unit's code for a function of regions.
use Rattle.std.specs.Prelude.{◌≡◌, ℕ, ◌<◌, length}
use Rattle.region_forms.specs.Form.{RegionFunction, kinds_of}
use Rattle.linear_forms.specs.Activation.{Code}
use Rattle.linear_forms.specs.Unit.{emitting, placed_code}
use Rattle.linear_forms.specs.Means.{FiltersMean}
use Rattle.linear_forms.specs.CodeRuns.{HasAt, SlotsBehind}

-- Its operations are fetched at their places, the tables say of each what covers it, and labels are found where they stand; the slots of
-- its pads are behind its own, which have their kinds; its filters mean what they are for.
pub record FunctionStands (code : Code) (n : ℕ) (f : RegionFunction) : Type 0 where
  pub has : HasAt code n 0 (placed_code f)
  pub behind : SlotsBehind code n (length f.slots) (emitting f)
  pub kinds : (s : ℕ) → s < length f.slots → code.kinds_at n s ≡ kinds_of f.slots s
  pub means : FiltersMean (code.sense_at n) (emitting f).filter f.body
