use Rattle.region_statements.proofs.Whole.{all_calls_do_alike}
use Rattle.region_statements.proofs.laws.all_calls_do_alike.Goals as goal

pub returns : goal.returns
returns c = all_calls_do_alike
