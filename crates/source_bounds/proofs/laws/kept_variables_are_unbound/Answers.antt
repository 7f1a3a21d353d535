use Rattle.source_bounds.proofs.KeptVariables.{kept_variables_are_unbound}
use Rattle.source_bounds.proofs.laws.kept_variables_are_unbound.Goals as goal

pub returns : goal.returns
returns c = kept_variables_are_unbound c.variables_are_chosen.ensures
