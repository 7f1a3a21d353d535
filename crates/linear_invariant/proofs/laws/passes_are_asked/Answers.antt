use Rattle.linear_invariant.proofs.Asked.{passes_are_asked}
use Rattle.linear_invariant.proofs.laws.passes_are_asked.Goals as goal

pub returns : goal.returns
returns c = passes_are_asked
