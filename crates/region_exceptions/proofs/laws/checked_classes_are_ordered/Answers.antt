use Rattle.region_exceptions.proofs.Ordered.{classes_ordered}
use Rattle.region_exceptions.proofs.laws.checked_classes_are_ordered.Goals as goal

pub returns : goal.returns
returns c = classes_ordered
