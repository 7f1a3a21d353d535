use Rattle.region_statements.proofs.Fueled.{fuel_lasts}
use Rattle.region_statements.proofs.laws.fuel_lasts.Goals as goal

pub returns : goal.returns
returns c = fuel_lasts
