use Rattle.region_ir.proofs.Specials.{take_objects}
use Rattle.region_ir.proofs.laws.checked_classes_take_objects.Goals as goal

pub returns : goal.returns
returns c = record { taken = take_objects }
