use Rattle.cost_paths.proofs.Words.{words_are_in_order}
use Rattle.cost_paths.proofs.laws.words_are_in_order.Goals as goal

pub returns : goal.returns
returns c = words_are_in_order
