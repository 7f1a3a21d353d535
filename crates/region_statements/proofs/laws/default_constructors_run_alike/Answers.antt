use Rattle.region_statements.proofs.Members.{default_constructors_run_alike}
use Rattle.region_statements.proofs.laws.default_constructors_run_alike.Goals as goal

pub returns : goal.returns
returns c = default_constructors_run_alike
