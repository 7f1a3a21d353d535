use Rattle.exceptions_in_flight.proofs.Flights.{flights_are_carried}
use Rattle.exceptions_in_flight.proofs.laws.flights_are_carried.Goals as goal

pub returns : goal.returns
returns c = flights_are_carried
