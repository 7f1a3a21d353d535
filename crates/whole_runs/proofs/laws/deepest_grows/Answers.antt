use Rattle.whole_runs.proofs.Staying.{deepest_grows}
use Rattle.whole_runs.proofs.laws.deepest_grows.Goals as goal

pub returns : goal.returns
returns c = deepest_grows
