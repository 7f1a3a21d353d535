use Rattle.step_law.proofs.OwnBarred.{own_barred_follow}
use Rattle.step_law.proofs.laws.own_barred_follow.Goals as goal

pub returns : goal.returns
returns c = own_barred_follow c.own_unwinds_end.ensures c.catch_frees_on_the_way.ensures c.stacks_hold_calls.ensures
