use Rattle.raise_simulation.proofs.Continuing.{resumes_agree}
use Rattle.raise_simulation.proofs.laws.resumes_agree.Goals as goal

pub returns : goal.returns
returns c = resumes_agree
