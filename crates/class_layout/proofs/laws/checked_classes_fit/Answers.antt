use Rattle.class_layout.proofs.Program.{classes_fit}
use Rattle.class_layout.proofs.laws.checked_classes_fit.Goals as goal

pub returns : goal.returns
returns c = classes_fit
