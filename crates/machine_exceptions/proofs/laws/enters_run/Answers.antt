use Rattle.machine_exceptions.proofs.Enters.{enters_run}
use Rattle.machine_exceptions.proofs.laws.enters_run.Goals as goal

pub returns : goal.returns
returns c = enters_run c.calls_are_turns.ensures c.calls_are_made.ensures
