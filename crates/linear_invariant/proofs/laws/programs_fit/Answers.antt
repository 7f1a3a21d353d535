use Rattle.linear_invariant.proofs.Programs.{programs_fit}
use Rattle.linear_invariant.proofs.laws.programs_fit.Goals as goal

pub returns : goal.returns
returns c = programs_fit
