use Rattle.machine_stubs.proofs.Terminates.{calls_terminate}
use Rattle.machine_stubs.proofs.laws.calls_terminate.Goals as goal

pub returns : goal.returns
returns c = calls_terminate
