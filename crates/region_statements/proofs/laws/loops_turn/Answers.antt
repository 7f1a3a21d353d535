use Rattle.region_statements.proofs.Testing.{does_while}
use Rattle.region_statements.proofs.laws.loops_turn.Goals as goal

pub returns : goal.returns
returns c = does_while
