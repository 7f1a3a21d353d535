use Rattle.runtime_invariant.proofs.Aims.{headers_stay_aimed}
use Rattle.runtime_invariant.proofs.laws.headers_stay_aimed.Goals as goal

pub returns : goal.returns
returns c = headers_stay_aimed
