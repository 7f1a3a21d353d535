use Rattle.exceptions_in_flight.proofs.Targets.{flights_come_to_pads}
use Rattle.exceptions_in_flight.proofs.laws.flights_come_to_pads.Goals as goal

pub returns : goal.returns
returns c = flights_come_to_pads
