use Rattle.stack_bounds.proofs.Calls.{calls_overflow}
use Rattle.stack_bounds.proofs.laws.calls_overflow.Goals as goal

pub returns : goal.returns
returns c = calls_overflow c.addresses_are_computed.ensures c.functions_overflow.ensures
