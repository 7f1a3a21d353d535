use Rattle.landing_pads.proofs.CheckedFrames.{checked_frames_fit}
use Rattle.landing_pads.proofs.laws.frames_of_checked_fit.Goals as goal

pub returns : goal.returns
returns c = checked_frames_fit
