use Rattle.function_lengths.proofs.Destructors.{destructors_are_short}
use Rattle.function_lengths.proofs.laws.destructors_are_short.Goals as goal

pub returns : goal.returns
returns c = destructors_are_short
