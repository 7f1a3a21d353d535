use Rattle.stub_landings.proofs.OwnRaises.{own_resumes_land}
use Rattle.stub_landings.proofs.laws.own_resumes_land.Goals as goal

pub returns : goal.returns
returns c = own_resumes_land c.calls_are_made.ensures c.resumes_agree.ensures
