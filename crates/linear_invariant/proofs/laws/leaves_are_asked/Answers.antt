use Rattle.linear_invariant.proofs.Asked.{leaves_are_asked}
use Rattle.linear_invariant.proofs.laws.leaves_are_asked.Goals as goal

pub returns : goal.returns
returns c = leaves_are_asked
