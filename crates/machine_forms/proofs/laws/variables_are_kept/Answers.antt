use Rattle.machine_forms.proofs.Chosen.{variables_are_kept}
use Rattle.machine_forms.proofs.laws.variables_are_kept.Goals as goal

pub returns : goal.returns
returns c = variables_are_kept
