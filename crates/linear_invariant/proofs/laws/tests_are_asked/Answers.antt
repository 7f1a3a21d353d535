use Rattle.linear_invariant.proofs.Asked.{tests_are_asked}
use Rattle.linear_invariant.proofs.laws.tests_are_asked.Goals as goal

pub returns : goal.returns
returns c = tests_are_asked
