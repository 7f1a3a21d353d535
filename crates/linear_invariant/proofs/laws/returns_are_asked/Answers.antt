use Rattle.linear_invariant.proofs.Returning.{returns_are_asked}
use Rattle.linear_invariant.proofs.laws.returns_are_asked.Goals as goal

pub returns : goal.returns
returns c = returns_are_asked
