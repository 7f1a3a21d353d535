use Rattle.region_exceptions.proofs.Exceptions.{all_calls_fare}
use Rattle.region_exceptions.proofs.laws.all_calls_fare.Goals as goal

pub returns : goal.returns
returns c = all_calls_fare
