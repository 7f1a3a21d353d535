use Rattle.step_law.proofs.Filters.{filters_follow}
use Rattle.step_law.proofs.laws.filters_follow.Goals as goal

pub returns : goal.returns
returns c = filters_follow c.filters_run.ensures
