use Rattle.raise_core.proofs.Rising.{all_frames}
use Rattle.raise_core.proofs.law.more_frames_make_no_difference.Goals as goal

pub returns : goal.returns
returns c = all_frames
