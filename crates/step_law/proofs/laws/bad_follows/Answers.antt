use Rattle.step_law.proofs.Bad.{bad_follows}
use Rattle.step_law.proofs.laws.bad_follows.Goals as goal

pub returns : goal.returns
returns c = bad_follows c.bad_is_thrown.ensures c.bad_is_doomed.ensures c.unexpected_refuses.ensures c.terminate_handlers_overflow.ensures c.stacks_hold_calls.ensures
