use Rattle.step_law.proofs.Handling.{unexpected_follows}
use Rattle.step_law.proofs.laws.unexpected_follows.Goals as goal

pub returns : goal.returns
returns c = unexpected_follows c.unexpected_handlers_begin.ensures c.unexpected_handlers_overflow.ensures c.stacks_hold_calls.ensures
