use Rattle.linear_simulation.proofs.Watching
use Rattle.linear_simulation.proofs.laws.watched_is_meant.Goals as goal

pub returns : goal.returns
returns c = Watching.watched_is_meant
