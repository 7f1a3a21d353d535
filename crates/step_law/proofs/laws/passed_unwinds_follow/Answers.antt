use Rattle.step_law.proofs.OwnUnwinds.{passed_unwinds_follow}
use Rattle.step_law.proofs.laws.passed_unwinds_follow.Goals as goal

pub returns : goal.returns
returns c = passed_unwinds_follow c.own_flights_go_on.ensures
