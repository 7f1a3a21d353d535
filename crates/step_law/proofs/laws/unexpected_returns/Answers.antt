use Rattle.step_law.proofs.ComesBack.{unexpected_returns}
use Rattle.step_law.proofs.laws.unexpected_returns.Goals as goal

pub returns : goal.returns
returns c = unexpected_returns c.unexpected_terminates.ensures c.terminate_handlers_overflow.ensures c.stacks_hold_calls.ensures
