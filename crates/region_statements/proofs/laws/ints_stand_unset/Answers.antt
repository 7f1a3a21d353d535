use Rattle.region_statements.proofs.Naming.{does_named_int}
use Rattle.region_statements.proofs.laws.ints_stand_unset.Goals as goal

pub returns : goal.returns
returns c = does_named_int
