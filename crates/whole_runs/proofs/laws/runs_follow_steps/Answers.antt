use Rattle.whole_runs.proofs.Following.{runs_follow_steps}
use Rattle.whole_runs.proofs.laws.runs_follow_steps.Goals as goal

pub returns : goal.returns
returns c = runs_follow_steps
