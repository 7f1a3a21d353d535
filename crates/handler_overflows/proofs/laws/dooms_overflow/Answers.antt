use Rattle.handler_overflows.proofs.Origins.{dooms_overflow}
use Rattle.handler_overflows.proofs.laws.dooms_overflow.Goals as goal

pub returns : goal.returns
returns c = dooms_overflow c.calls_are_turns.ensures c.calls_are_made.ensures c.terminate_runs.ensures c.raises_agree.ensures c.functions_overflow.ensures
