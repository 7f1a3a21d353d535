use Rattle.step_law.proofs.OwnUnwinds.{freed_unwinds_follow}
use Rattle.step_law.proofs.laws.freed_unwinds_follow.Goals as goal

pub returns : goal.returns
returns c = freed_unwinds_follow c.catch_frees_on_the_way.ensures
