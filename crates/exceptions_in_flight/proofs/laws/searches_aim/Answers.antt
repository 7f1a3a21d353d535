use Rattle.exceptions_in_flight.proofs.Targets.{searches_aim}
use Rattle.exceptions_in_flight.proofs.laws.searches_aim.Goals as goal

pub returns : goal.returns
returns c = searches_aim
