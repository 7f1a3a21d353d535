use Rattle.linear_premises.proofs.Programs.{checked_programs_fit}
use Rattle.linear_premises.proofs.laws.checked_programs_fit.Goals as goal

pub returns : goal.returns
returns c = checked_programs_fit
