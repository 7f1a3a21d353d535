use Rattle.step_law.proofs.Resumes.{resumes_follow}
use Rattle.step_law.proofs.laws.resumes_follow.Goals as goal

pub returns : goal.returns
returns c = resumes_follow c.resumes_land.ensures
