use Rattle.unexpected_calls.proofs.Begins.{unexpected_handlers_begin}
use Rattle.unexpected_calls.proofs.laws.unexpected_handlers_begin.Goals as goal

pub returns : goal.returns
returns c = unexpected_handlers_begin c.calls_are_made.ensures c.unexpected_begins.ensures
