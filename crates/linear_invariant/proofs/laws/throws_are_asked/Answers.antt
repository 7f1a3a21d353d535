use Rattle.linear_invariant.proofs.Asked.{throws_are_asked}
use Rattle.linear_invariant.proofs.laws.throws_are_asked.Goals as goal

pub returns : goal.returns
returns c = throws_are_asked
