use Rattle.kept_selectors.proofs.Runs.{runs_keep_selectors}
use Rattle.kept_selectors.proofs.laws.runs_keep_selectors.Goals as goal

pub returns : goal.returns
returns c = runs_keep_selectors
