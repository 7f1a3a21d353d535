use Rattle.step_law.proofs.Freed.{freed_flights_follow}
use Rattle.step_law.proofs.laws.freed_flights_follow.Goals as goal

pub returns : goal.returns
returns c = freed_flights_follow c.catch_frees_on_the_way.ensures
