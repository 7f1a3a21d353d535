use Rattle.step_law.proofs.Stopping.{stopped_terminates}
use Rattle.step_law.proofs.laws.stopped_terminates.Goals as goal

pub returns : goal.returns
returns c = stopped_terminates c.unexpected_terminates.ensures c.terminate_handlers_overflow.ensures c.stacks_hold_calls.ensures
