use Rattle.unexpected_calls.proofs.Overflow.{unexpected_handlers_overflow}
use Rattle.unexpected_calls.proofs.laws.unexpected_handlers_overflow.Goals as goal

pub returns : goal.returns
returns c = unexpected_handlers_overflow c.calls_are_made.ensures c.unexpected_begins.ensures c.functions_overflow.ensures
