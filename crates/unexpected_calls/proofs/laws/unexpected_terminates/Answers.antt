use Rattle.unexpected_calls.proofs.Behind.{unexpected_terminates}
use Rattle.unexpected_calls.proofs.laws.unexpected_terminates.Goals as goal

pub returns : goal.returns
returns c = unexpected_terminates c.calls_are_made.ensures c.terminate_runs.ensures c.unexpected_begins.ensures
