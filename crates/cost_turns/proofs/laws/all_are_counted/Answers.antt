use Rattle.cost_turns.proofs.Counting.{all_are_counted}
use Rattle.cost_turns.proofs.laws.all_are_counted.Goals as goal

pub returns : goal.returns
returns c = all_are_counted
