-- How what is lowered in memory is a lowering.
use Rattle.std.specs.Prelude.{ℕ, ◌≡◌, List, ◌++◌, map}
use Rattle.region_ir.specs.declared.value.Value.{Value as ValueTree}
use Rattle.region_ir.specs.declared.region.Region.{Region as RegionTree}
use Rattle.region_forms.specs.Form.{Region}
use Rattle.region_forms.specs.LowerExpression.{Lowered}
use Rattle.region_ir.specs.View.{region_of, value_of}

-- what comes before a value is put behind other regions; the value, and the first slot that is free behind it
pub record Lowers (x : Lowered) (others : List Region) (now : List RegionTree) (value : ValueTree) (free : ℕ) : Type 0 where
  pub put : map region_of now ≡ others ++ x.before
  pub same : value_of value ≡ x.value
  pub behind : free ≡ x.next
