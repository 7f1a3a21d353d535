use Rattle.machine_exceptions.proofs.LastLeft.{leaves_run}
use Rattle.machine_exceptions.proofs.laws.leaves_run.Goals as goal

pub returns : goal.returns
returns c = leaves_run c.end_catch_runs.ensures c.calls_are_made.ensures c.end_catch_comes_back.ensures c.end_catch_frees.ensures
