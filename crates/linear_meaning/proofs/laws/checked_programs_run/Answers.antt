use Rattle.linear_meaning.proofs.WatchedRuns.{checked_runs}
use Rattle.linear_meaning.proofs.laws.checked_programs_run.Goals as goal

pub returns : goal.returns
returns c = record { run = checked_runs }
