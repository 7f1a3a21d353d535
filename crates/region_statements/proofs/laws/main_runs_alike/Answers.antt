use Rattle.region_statements.proofs.Main.{main_runs_alike}
use Rattle.region_statements.proofs.laws.main_runs_alike.Goals as goal

pub returns : goal.returns
returns c = main_runs_alike
