use Rattle.std.proofs.Common.{◌≡◌, ◌++◌, ℕ, List, length}
use Rattle.std.specs.BTreeMap.{get}
use Rattle.std.specs.Ordering.{nat_cmp}
use Rattle.lsda_pack.specs.Listing.{ArePositions}
use Rattle.lsda_pack.proofs.listing.positions_of.Given as goal

abbrev pub invariant-actions : goal.invariant-actions
invariant-actions l = (behind : List ℕ) × (l.actions ≡ l.rest ++ behind) × ArePositions (get nat_cmp l.positions) (length l.rest) behind

abbrev pub decreases-actions : goal.decreases-actions
decreases-actions l = length l.rest
