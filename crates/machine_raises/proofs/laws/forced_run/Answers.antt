use Rattle.machine_raises.proofs.Forcing.{forced_run}
use Rattle.machine_raises.proofs.laws.forced_run.Goals as goal

pub returns : goal.returns
returns c = forced_run c.calls_are_turns.ensures c.calls_are_made.ensures c.forced_agree.ensures
