use Rattle.machine_exceptions.proofs.Unexpected.{unexpected_called}
use Rattle.machine_exceptions.proofs.laws.unexpected_called.Goals as goal

pub returns : goal.returns
returns c = unexpected_called
