use Rattle.step_law.proofs.OwnUnwindEnds.{own_unwinds_end_follow}
use Rattle.step_law.proofs.laws.own_unwinds_end_follow.Goals as goal

pub returns : goal.returns
returns c = own_unwinds_end_follow c.own_unwinds_end.ensures c.catch_frees_on_the_way.ensures
