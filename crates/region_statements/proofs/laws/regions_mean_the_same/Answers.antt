use Rattle.region_statements.proofs.Whole.{regions_mean_the_same}
use Rattle.region_statements.proofs.laws.regions_mean_the_same.Goals as goal

pub returns : goal.returns
returns c = regions_mean_the_same
