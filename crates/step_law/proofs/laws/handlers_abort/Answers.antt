use Rattle.step_law.proofs.Aborts.{handlers_abort}
use Rattle.step_law.proofs.laws.handlers_abort.Goals as goal

pub returns : goal.returns
returns c = handlers_abort c.terminates_run.ensures
