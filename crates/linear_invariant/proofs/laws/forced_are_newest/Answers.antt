use Rattle.linear_invariant.proofs.ForcedRuns.{forced_are_newest}
use Rattle.linear_invariant.proofs.laws.forced_are_newest.Goals as goal

pub returns : goal.returns
returns c = forced_are_newest
