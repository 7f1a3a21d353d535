use Rattle.step_law.proofs.Allowed.{allowed_follows}
use Rattle.step_law.proofs.laws.allowed_follows.Goals as goal

pub returns : goal.returns
returns c = allowed_follows c.allowed_is_thrown.ensures c.allowed_is_doomed.ensures c.terminate_handlers_overflow.ensures c.stacks_hold_calls.ensures
