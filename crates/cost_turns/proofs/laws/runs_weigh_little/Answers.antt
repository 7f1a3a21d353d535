use Rattle.cost_turns.proofs.Runs.{runs_weigh_little}
use Rattle.cost_turns.proofs.laws.runs_weigh_little.Goals as goal

pub returns : goal.returns
returns c = runs_weigh_little
