use Rattle.machine_raises.proofs.Dooms.{dooms_run}
use Rattle.machine_raises.proofs.laws.dooms_run.Goals as goal

pub returns : goal.returns
returns c = dooms_run c.calls_are_turns.ensures c.calls_terminate.ensures c.raises_agree.ensures
