use Rattle.region_statements.proofs.Programs.{calls_do_alike}
use Rattle.region_statements.proofs.laws.calls_do_alike.Goals as goal

pub returns : goal.returns
returns c = calls_do_alike
