use Rattle.caught_stack.proofs.Changes.{sound}
use Rattle.caught_stack.proofs.stack.CaughtStack.top.Goals as goal

pub returns-clause-sound : goal.returns-clause-sound
returns-clause-sound c = rw (← c.self.view_is) (sound _ _ _ _ _ c.self.invariant)
