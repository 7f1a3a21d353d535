use Rattle.kept_handlers.proofs.Programs.{programs_open}
use Rattle.kept_handlers.proofs.laws.programs_open.Goals as goal

pub returns : goal.returns
returns c = programs_open
