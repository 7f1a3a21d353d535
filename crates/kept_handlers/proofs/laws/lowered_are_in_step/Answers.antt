use Rattle.kept_handlers.proofs.LoweredPrograms.{lowered_are_in_step}
use Rattle.kept_handlers.proofs.laws.lowered_are_in_step.Goals as goal

pub returns : goal.returns
returns c = lowered_are_in_step
