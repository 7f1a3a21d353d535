use Rattle.handler_overflows.proofs.Origins.{terminates_overflow}
use Rattle.handler_overflows.proofs.laws.terminates_overflow.Goals as goal

pub returns : goal.returns
returns c = terminates_overflow c.calls_are_turns.ensures c.calls_are_made.ensures c.terminate_runs.ensures c.functions_overflow.ensures
