use Rattle.own_ends.proofs.Unwinds.{own_unwinds_end}
use Rattle.own_ends.proofs.laws.own_unwinds_end.Goals as goal

pub returns : goal.returns
returns c = own_unwinds_end c.unexpected_ends.ensures c.end_catch_runs.ensures c.calls_are_made.ensures c.runs_keep_memory.ensures c.terminate_runs.ensures c.forced_agree.ensures c.functions_overflow.ensures
