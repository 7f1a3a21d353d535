use Rattle.cost_words.proofs.Runs.{checked_runs_are_short}
use Rattle.cost_words.proofs.laws.checked_runs_are_short.Goals as goal

pub returns : goal.returns
returns c = checked_runs_are_short
