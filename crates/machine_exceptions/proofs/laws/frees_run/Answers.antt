use Rattle.machine_exceptions.proofs.Frees.{frees_run}
use Rattle.machine_exceptions.proofs.laws.frees_run.Goals as goal

pub returns : goal.returns
returns c = frees_run c.calls_are_turns.ensures c.calls_are_made.ensures
