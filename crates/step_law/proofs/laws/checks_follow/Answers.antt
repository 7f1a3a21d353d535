use Rattle.step_law.proofs.Checks.{checks_follow}
use Rattle.step_law.proofs.laws.checks_follow.Goals as goal

pub returns : goal.returns
returns c = checks_follow c.out_of_handler_breaks.ensures c.out_of_handler_is_crowded.ensures c.unlisted_follows.ensures c.allowed_follows.ensures c.bad_follows.ensures c.own_leaves_follow.ensures c.own_destructors_begin_follow.ensures
