use Rattle.machine_raises.proofs.Rethrowing.{rethrows_run}
use Rattle.machine_raises.proofs.laws.rethrows_run.Goals as goal

pub returns : goal.returns
returns c = rethrows_run c.calls_are_turns.ensures c.calls_are_made.ensures c.raises_agree.ensures
