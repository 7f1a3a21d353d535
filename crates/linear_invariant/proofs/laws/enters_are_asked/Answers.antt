use Rattle.linear_invariant.proofs.Asked.{enters_are_asked}
use Rattle.linear_invariant.proofs.laws.enters_are_asked.Goals as goal

pub returns : goal.returns
returns c = enters_are_asked
