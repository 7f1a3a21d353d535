use Rattle.stack_bounds.proofs.Overflow.{functions_overflow}
use Rattle.stack_bounds.proofs.laws.functions_overflow.Goals as goal

pub returns : goal.returns
returns c = functions_overflow c.calls_are_turns.ensures c.control_goes.ensures
