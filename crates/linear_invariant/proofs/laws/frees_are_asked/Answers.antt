use Rattle.linear_invariant.proofs.Asked.{frees_are_asked}
use Rattle.linear_invariant.proofs.laws.frees_are_asked.Goals as goal

pub returns : goal.returns
returns c = frees_are_asked
