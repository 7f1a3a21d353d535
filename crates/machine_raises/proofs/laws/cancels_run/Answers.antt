use Rattle.machine_raises.proofs.Cancelling.{cancels_run}
use Rattle.machine_raises.proofs.laws.cancels_run.Goals as goal

pub returns : goal.returns
returns c = cancels_run c.calls_are_turns.ensures c.calls_are_made.ensures c.values_are_computed.ensures c.forced_agree.ensures
