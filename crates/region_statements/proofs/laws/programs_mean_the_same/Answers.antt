use Rattle.region_statements.proofs.Programs.{programs_mean_the_same}
use Rattle.region_statements.proofs.laws.programs_mean_the_same.Goals as goal

pub returns : goal.returns
returns c = programs_mean_the_same
