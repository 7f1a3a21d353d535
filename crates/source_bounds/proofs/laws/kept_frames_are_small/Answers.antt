use Rattle.source_bounds.proofs.KeptFrames.{kept_frames_are_small}
use Rattle.source_bounds.proofs.laws.kept_frames_are_small.Goals as goal

pub returns : goal.returns
returns c = kept_frames_are_small c.variables_are_kept.ensures c.frames_are_small.ensures c.frames_of_sources_fit.ensures
