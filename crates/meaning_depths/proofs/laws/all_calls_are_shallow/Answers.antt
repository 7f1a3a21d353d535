use Rattle.meaning_depths.proofs.StoppingCalls.{calls_are_below}
use Rattle.meaning_depths.proofs.laws.all_calls_are_shallow.Goals as goal

pub returns : goal.returns
returns c = calls_are_below
