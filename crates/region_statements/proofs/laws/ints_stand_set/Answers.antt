use Rattle.region_statements.proofs.Naming.{does_named_int_value}
use Rattle.region_statements.proofs.laws.ints_stand_set.Goals as goal

pub returns : goal.returns
returns c = does_named_int_value
