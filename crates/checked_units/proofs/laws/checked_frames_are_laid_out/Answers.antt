use Rattle.checked_units.proofs.Frames.{checked_frames_are_laid_out}
use Rattle.checked_units.proofs.laws.checked_frames_are_laid_out.Goals as goal

pub returns : goal.returns
returns c = checked_frames_are_laid_out
