use Rattle.std.proofs.Common.{◌≡◌, ◌≤◌, length}
use Rattle.lsda_pack.specs.Ends.{indices_end}
use Rattle.lsda_pack.proofs.ends.indices_end.Given as goal

abbrev pub invariant-indices : goal.invariant-indices
invariant-indices l = (indices_end l.most l.bytes l.first ≡ indices_end l.left l.bytes l.place) × (l.place ≤ length l.bytes)

abbrev pub decreases-indices : goal.decreases-indices
decreases-indices l = l.left
