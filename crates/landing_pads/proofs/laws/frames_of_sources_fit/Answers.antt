use Rattle.landing_pads.proofs.SourceFrames.{source_frames_fit}
use Rattle.landing_pads.proofs.laws.frames_of_sources_fit.Goals as goal

pub returns : goal.returns
returns c = source_frames_fit
