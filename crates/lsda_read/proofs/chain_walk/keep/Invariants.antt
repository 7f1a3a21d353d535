use Rattle.std.specs.Ordering.{nat_cmp}
use Rattle.std.specs.BTreeMap.{get}
use Rattle.std.proofs.Common.{◌≡◌, ℕ, length}
use Rattle.lsda_read.specs.Known.{with_path}
use Rattle.lsda_read.proofs.chain_walk.keep.Given as goal

abbrev pub invariant-path : goal.invariant-path
invariant-path l = (p : ℕ) → with_path l.path l.end (get nat_cmp l.initial.chains) p ≡ with_path l.rest l.end (get nat_cmp l.chains) p

abbrev pub decreases-path : goal.decreases-path
decreases-path l = length l.rest
