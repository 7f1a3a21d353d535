use Rattle.exceptions_in_flight.proofs.Slots.{slots_are_kept}
use Rattle.exceptions_in_flight.proofs.laws.slots_are_kept.Goals as goal

pub returns : goal.returns
returns c = slots_are_kept
