use Rattle.exceptions_in_flight.proofs.Targets.{aims_have_targets}
use Rattle.exceptions_in_flight.proofs.laws.aims_have_targets.Goals as goal

pub returns : goal.returns
returns c = aims_have_targets
