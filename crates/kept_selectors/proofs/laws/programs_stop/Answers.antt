use Rattle.kept_selectors.proofs.Programs.{programs_stop}
use Rattle.kept_selectors.proofs.laws.programs_stop.Goals as goal

pub returns : goal.returns
returns c = programs_stop
