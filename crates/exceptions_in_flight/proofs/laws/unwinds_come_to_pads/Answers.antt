use Rattle.exceptions_in_flight.proofs.Targets.{unwinds_come_to_pads}
use Rattle.exceptions_in_flight.proofs.laws.unwinds_come_to_pads.Goals as goal

pub returns : goal.returns
returns c = unwinds_come_to_pads
