use Rattle.step_law.proofs.ForcedEnds.{forced_ends_follow}
use Rattle.step_law.proofs.laws.forced_ends_follow.Goals as goal

pub returns : goal.returns
returns c = forced_ends_follow c.forced_unwinds_exit.ensures c.forced_unwinds_terminate.ensures
