use Rattle.flight_homes.proofs.Names.{handlers_take_nothing}
use Rattle.flight_homes.proofs.laws.handlers_take_nothing.Goals as goal

pub returns : goal.returns
returns c = handlers_take_nothing
