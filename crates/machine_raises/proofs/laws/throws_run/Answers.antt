use Rattle.machine_raises.proofs.Throwing.{throws_run}
use Rattle.machine_raises.proofs.laws.throws_run.Goals as goal

pub returns : goal.returns
returns c = throws_run c.calls_are_turns.ensures c.calls_are_made.ensures c.raises_agree.ensures
