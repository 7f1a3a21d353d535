use Rattle.handler_overflows.proofs.Raising.{rethrows_overflow}
use Rattle.handler_overflows.proofs.laws.rethrows_overflow.Goals as goal

pub returns : goal.returns
returns c =
    rethrows_overflow c.calls_are_turns.ensures c.calls_are_made.ensures c.terminate_runs.ensures c.raises_agree.ensures c.functions_overflow.ensures
