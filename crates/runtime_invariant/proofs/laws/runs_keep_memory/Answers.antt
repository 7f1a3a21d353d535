use Rattle.runtime_invariant.proofs.Memory.{runs_keep_memory}
use Rattle.runtime_invariant.proofs.laws.runs_keep_memory.Goals as goal

pub returns : goal.returns
returns c = runs_keep_memory
