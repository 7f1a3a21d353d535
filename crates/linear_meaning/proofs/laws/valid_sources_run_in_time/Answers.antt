use Rattle.linear_meaning.proofs.Costs.{sources_run_in_time}
use Rattle.linear_meaning.proofs.laws.valid_sources_run_in_time.Goals as goal

pub returns : goal.returns
returns c = record { run = sources_run_in_time }
