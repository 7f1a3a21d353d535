use Rattle.machine_exceptions.proofs.Makes.{makes_run}
use Rattle.machine_exceptions.proofs.laws.makes_run.Goals as goal

pub returns : goal.returns
returns c = makes_run c.calls_are_turns.ensures c.calls_are_made.ensures
