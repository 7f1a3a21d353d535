use Rattle.step_law.proofs.Passed.{passed_flights_follow}
use Rattle.step_law.proofs.laws.passed_flights_follow.Goals as goal

pub returns : goal.returns
returns c = passed_flights_follow c.own_flights_go_on.ensures
