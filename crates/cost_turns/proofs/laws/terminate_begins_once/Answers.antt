use Rattle.cost_turns.proofs.Once.{terminate_begins_once}
use Rattle.cost_turns.proofs.laws.terminate_begins_once.Goals as goal

pub returns : goal.returns
returns c = terminate_begins_once
