use Rattle.region_meaning.proofs.Lowered.{programs_are_lowered}
use Rattle.region_meaning.proofs.laws.programs_are_lowered.Goals as goal

pub returns : goal.returns
returns c = programs_are_lowered
