use Rattle.region_exceptions.proofs.Modules.{all_expressions_evaluate}
use Rattle.region_exceptions.proofs.laws.all_expressions_evaluate.Goals as goal

pub returns : goal.returns
returns c = all_expressions_evaluate c.caught_list_follows.ensures
