use Rattle.raise_ends.proofs.Exits.{forced_unwinds_exit}
use Rattle.raise_ends.proofs.laws.forced_unwinds_exit.Goals as goal

pub returns : goal.returns
returns c = forced_unwinds_exit c.calls_are_turns.ensures c.calls_are_made.ensures c.values_are_computed.ensures c.forced_agree.ensures
