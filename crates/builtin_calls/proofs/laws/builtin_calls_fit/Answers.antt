use Rattle.builtin_calls.proofs.Programs.{builtin_calls_fit}
use Rattle.builtin_calls.proofs.laws.builtin_calls_fit.Goals as goal

pub returns : goal.returns
returns c = builtin_calls_fit
