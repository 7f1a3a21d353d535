use Rattle.raise_ends.proofs.Barriers.{forced_unwinds_terminate}
use Rattle.raise_ends.proofs.laws.forced_unwinds_terminate.Goals as goal

pub returns : goal.returns
returns c = forced_unwinds_terminate c.calls_are_turns.ensures c.calls_are_made.ensures c.values_are_computed.ensures c.terminate_runs.ensures c.forced_agree.ensures
