use Rattle.linear_invariant.proofs.Asked.{resumes_are_asked}
use Rattle.linear_invariant.proofs.laws.resumes_are_asked.Goals as goal

pub returns : goal.returns
returns c = resumes_are_asked
