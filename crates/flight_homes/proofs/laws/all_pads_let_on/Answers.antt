use Rattle.flight_homes.proofs.LetsOn.{all_pads_let_on}
use Rattle.flight_homes.proofs.laws.all_pads_let_on.Goals as goal

pub returns : goal.returns
returns c = all_pads_let_on
