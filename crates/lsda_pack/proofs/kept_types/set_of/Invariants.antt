use Rattle.std.proofs.Common.{◌≡◌, ◌||◌, ℕ, length}
use Rattle.std.specs.BTreeSet.{contains}
use Rattle.std.specs.Ordering.{nat_cmp}
use Rattle.lsda_pack.specs.KeptTypes.{is_among}
use Rattle.lsda_pack.proofs.kept_types.set_of.Given as goal

abbrev pub invariant-indices : goal.invariant-indices
invariant-indices l = (i : ℕ) → is_among l.indices i ≡ (contains nat_cmp l.set i || is_among l.rest i)

abbrev pub decreases-indices : goal.decreases-indices
decreases-indices l = length l.rest
