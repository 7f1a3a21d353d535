use Rattle.source_bounds.proofs.Types.{tokens_are_few}
use Rattle.source_bounds.proofs.laws.tokens_are_few.Goals as goal

pub returns : goal.returns
returns c = tokens_are_few
