use Rattle.unexpected_calls.proofs.GoingOn.{unexpected_goes_on}
use Rattle.unexpected_calls.proofs.laws.unexpected_goes_on.Goals as goal

pub returns : goal.returns
returns c = unexpected_goes_on c.unexpected_ends.ensures c.runs_keep_memory.ensures c.own_resumes_land.ensures c.own_forced_lands.ensures
