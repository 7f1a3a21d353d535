use Rattle.machine_exceptions.proofs.Ended.{terminates_run}
use Rattle.machine_exceptions.proofs.laws.terminates_run.Goals as goal

pub returns : goal.returns
returns c = terminates_run c.calls_are_turns.ensures c.calls_terminate.ensures c.terminate_runs.ensures
