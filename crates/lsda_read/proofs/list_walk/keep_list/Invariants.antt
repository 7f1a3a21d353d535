use Rattle.std.specs.Ordering.{nat_cmp}
use Rattle.std.specs.BTreeMap.{get}
use Rattle.std.proofs.Common.{◌≡◌, ℕ, length}
use Rattle.lsda_read.specs.KnownLists.{with_indices}
use Rattle.lsda_read.proofs.list_walk.keep_list.Given as goal

abbrev pub invariant-path : goal.invariant-path
invariant-path l = (p : ℕ) → with_indices l.path l.initial.end (get nat_cmp l.initial.lists) p ≡ with_indices l.rest l.end (get nat_cmp l.lists) p

abbrev pub decreases-path : goal.decreases-path
decreases-path l = length l.rest
