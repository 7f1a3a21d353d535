use Rattle.region_exceptions.proofs.Modules.{modules_answer_alike}
use Rattle.region_exceptions.proofs.laws.modules_answer_alike.Goals as goal

pub returns : goal.returns
returns c = modules_answer_alike c.caught_list_follows.ensures
