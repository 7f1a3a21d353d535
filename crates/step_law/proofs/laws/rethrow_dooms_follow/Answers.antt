use Rattle.step_law.proofs.RethrowDooms.{rethrow_dooms_follow}
use Rattle.step_law.proofs.laws.rethrow_dooms_follow.Goals as goal

pub returns : goal.returns
returns c = rethrow_dooms_follow c.rethrows_doom.ensures c.rethrows_overflow.ensures c.stacks_hold_calls.ensures
