use Rattle.linear_meaning.proofs.WatchedRuns.{sources_run}
use Rattle.linear_meaning.proofs.laws.valid_sources_run.Goals as goal

pub returns : goal.returns
returns c = record { run = sources_run }
