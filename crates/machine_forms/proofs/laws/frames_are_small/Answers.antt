use Rattle.machine_forms.proofs.Sizes.{frames_are_small}
use Rattle.machine_forms.proofs.laws.frames_are_small.Goals as goal

pub returns : goal.returns
returns c = frames_are_small
