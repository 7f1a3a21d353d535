use Rattle.stack_bounds.proofs.Taken.{stacks_hold_calls}
use Rattle.stack_bounds.proofs.laws.stacks_hold_calls.Goals as goal

pub returns : goal.returns
returns c = stacks_hold_calls c.open_calls_take.ensures
