use Rattle.region_ir.proofs.ShapedFunctions.{regions_shaped}
use Rattle.region_ir.proofs.laws.regions_have_shape.Goals as goal

pub returns : goal.returns
returns c = record { shape = regions_shaped }
