use Rattle.own_ends.proofs.Resuming.{own_flights_go_on}
use Rattle.own_ends.proofs.laws.own_flights_go_on.Goals as goal

pub returns : goal.returns
returns c = own_flights_go_on c.unexpected_ends.ensures c.runs_keep_memory.ensures c.own_resumes_land.ensures c.own_forced_lands.ensures
