use Rattle.linear_invariant.proofs.ForcedRuns.{steps_keep_forced}
use Rattle.linear_invariant.proofs.laws.steps_keep_forced.Goals as goal

pub returns : goal.returns
returns c = steps_keep_forced
