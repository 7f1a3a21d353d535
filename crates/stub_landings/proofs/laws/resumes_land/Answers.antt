use Rattle.stub_landings.proofs.Landings.{resumes_land}
use Rattle.stub_landings.proofs.laws.resumes_land.Goals as goal

pub returns : goal.returns
returns c = resumes_land c.calls_are_turns.ensures c.calls_are_made.ensures c.resumes_agree.ensures
