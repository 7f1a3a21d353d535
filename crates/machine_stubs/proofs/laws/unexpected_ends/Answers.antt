use Rattle.machine_stubs.proofs.UnexpectedEnds.{unexpected_ends}
use Rattle.machine_stubs.proofs.laws.unexpected_ends.Goals as goal

pub returns : goal.returns
returns c = unexpected_ends
