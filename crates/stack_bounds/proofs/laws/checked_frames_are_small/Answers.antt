use Rattle.stack_bounds.proofs.Taken.{checked_frames_are_small}
use Rattle.stack_bounds.proofs.laws.checked_frames_are_small.Goals as goal

pub returns : goal.returns
returns c = checked_frames_are_small c.frames_of_checked_fit.ensures
