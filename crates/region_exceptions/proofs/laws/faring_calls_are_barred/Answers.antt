use Rattle.region_exceptions.proofs.Faring.{faring_calls_are_barred}
use Rattle.region_exceptions.proofs.laws.faring_calls_are_barred.Goals as goal

pub returns : goal.returns
returns c = faring_calls_are_barred
