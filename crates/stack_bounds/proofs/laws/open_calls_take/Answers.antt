use Rattle.stack_bounds.proofs.Taken.{open_calls_take}
use Rattle.stack_bounds.proofs.laws.open_calls_take.Goals as goal

pub returns : goal.returns
returns c = open_calls_take
