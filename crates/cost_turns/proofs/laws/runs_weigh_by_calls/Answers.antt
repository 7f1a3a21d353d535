use Rattle.cost_turns.proofs.Runs.{runs_weigh_by_calls}
use Rattle.cost_turns.proofs.laws.runs_weigh_by_calls.Goals as goal

pub returns : goal.returns
returns c = runs_weigh_by_calls
