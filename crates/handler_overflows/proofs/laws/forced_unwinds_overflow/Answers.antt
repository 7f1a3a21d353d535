use Rattle.handler_overflows.proofs.Unwinding.{forced_unwinds_overflow}
use Rattle.handler_overflows.proofs.laws.forced_unwinds_overflow.Goals as goal

pub returns : goal.returns
returns c =
    forced_unwinds_overflow c.calls_are_turns.ensures c.calls_are_made.ensures c.values_are_computed.ensures c.terminate_runs.ensures c.forced_agree.ensures c.functions_overflow.ensures
