use Rattle.unexpected_calls.proofs.Answer.{tables_are_low}
use Rattle.unexpected_calls.proofs.laws.tables_are_low.Goals as goal

pub returns : goal.returns
returns c = tables_are_low
