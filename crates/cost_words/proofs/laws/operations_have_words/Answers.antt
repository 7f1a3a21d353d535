use Rattle.cost_words.proofs.Counts.{operations_have_words}
use Rattle.cost_words.proofs.laws.operations_have_words.Goals as goal

pub returns : goal.returns
returns c = operations_have_words
