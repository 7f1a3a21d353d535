use Rattle.region_statements.proofs.Members.{implicit_destructors_run_alike}
use Rattle.region_statements.proofs.laws.implicit_destructors_run_alike.Goals as goal

pub returns : goal.returns
returns c = implicit_destructors_run_alike
