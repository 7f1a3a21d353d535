use Rattle.machine_stubs.proofs.UnexpectedBegins.{unexpected_begins}
use Rattle.machine_stubs.proofs.laws.unexpected_begins.Goals as goal

pub returns : goal.returns
returns c = unexpected_begins
