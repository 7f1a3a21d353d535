use Rattle.machine_stubs.proofs.UnexpectedChecks.{unexpected_checks}
use Rattle.machine_stubs.proofs.laws.unexpected_checks.Goals as goal

pub returns : goal.returns
returns c = unexpected_checks
