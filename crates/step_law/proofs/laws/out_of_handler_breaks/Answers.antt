use Rattle.step_law.proofs.ComesOut.{out_of_handler_breaks}
use Rattle.step_law.proofs.laws.out_of_handler_breaks.Goals as goal

pub returns : goal.returns
returns c = out_of_handler_breaks
