use Rattle.machine_simulation.proofs.Frames.{frames_are_laid_out}
use Rattle.machine_simulation.proofs.laws.frames_are_laid_out.Goals as goal

pub returns : goal.returns
returns c = frames_are_laid_out
