use Rattle.region_statements.proofs.Testing.{does_continue}
use Rattle.region_statements.proofs.laws.continues_leave.Goals as goal

pub returns : goal.returns
returns c = does_continue
