use Rattle.step_law.proofs.Crowded.{out_of_handler_is_crowded}
use Rattle.step_law.proofs.laws.out_of_handler_is_crowded.Goals as goal

pub returns : goal.returns
returns c = out_of_handler_is_crowded c.unexpected_refuses.ensures c.terminate_handlers_overflow.ensures c.stacks_hold_calls.ensures
