use Rattle.machine_raises.proofs.Modules.{modules_raise}
use Rattle.machine_raises.proofs.laws.modules_raise.Goals as goal

pub returns : goal.returns
returns c = modules_raise c.calls_are_turns.ensures c.calls_are_made.ensures c.raises_agree.ensures
