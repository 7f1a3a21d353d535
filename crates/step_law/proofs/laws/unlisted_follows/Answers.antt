use Rattle.step_law.proofs.Unlisted.{unlisted_follows}
use Rattle.step_law.proofs.laws.unlisted_follows.Goals as goal

pub returns : goal.returns
returns c = unlisted_follows c.unlisted_terminates.ensures c.terminate_handlers_overflow.ensures c.stacks_hold_calls.ensures
