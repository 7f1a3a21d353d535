use Rattle.landing_pads.proofs.Framed.{all_frames_fit}
use Rattle.landing_pads.proofs.laws.frames_fit.Goals as goal

pub returns : goal.returns
returns c = all_frames_fit
