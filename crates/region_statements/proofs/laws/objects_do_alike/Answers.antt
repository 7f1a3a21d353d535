use Rattle.region_statements.proofs.Objects.{objects_do_alike}
use Rattle.region_statements.proofs.laws.objects_do_alike.Goals as goal

pub returns : goal.returns
returns c = objects_do_alike
