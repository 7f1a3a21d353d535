use Rattle.whole_runs.proofs.Sufficing.{runs_suffice}
use Rattle.whole_runs.proofs.laws.runs_suffice.Goals as goal

pub returns : goal.returns
returns c = runs_suffice
