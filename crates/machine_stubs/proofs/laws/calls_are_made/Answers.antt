use Rattle.machine_stubs.proofs.Calls.{calls_are_made}
use Rattle.machine_stubs.proofs.laws.calls_are_made.Goals as goal

pub returns : goal.returns
returns c = calls_are_made
