use Rattle.function_lengths.proofs.Functions.{checked_functions_are_short}
use Rattle.function_lengths.proofs.laws.checked_functions_are_short.Goals as goal

pub returns : goal.returns
returns c = checked_functions_are_short
