use Rattle.cost_words.proofs.Counts.{functions_begin_briefly}
use Rattle.cost_words.proofs.laws.functions_begin_briefly.Goals as goal

pub returns : goal.returns
returns c = functions_begin_briefly
