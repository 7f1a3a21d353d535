use Rattle.std.proofs.Common.{◌≡◌, ◌++◌, ℕ, List, length}
use Rattle.std.specs.Prelude.{Contains}
use Rattle.std.specs.List.{AllByRecursion}
use Rattle.std.specs.BTreeMap.{get}
use Rattle.std.specs.Ordering.{nat_cmp}
use Rattle.lsda_read.specs.Names.{types_named}
use Rattle.lsda_pack.specs.Listing.{AreValues}
use Rattle.lsda_pack.proofs.listing.values_of.Given as goal

abbrev pub invariant-types : goal.invariant-types
invariant-types l =
    (behind : List ℕ) × (l.types ≡ l.rest ++ behind) × AreValues l.table behind (get nat_cmp l.values) × AllByRecursion (Contains (types_named l.table)) l.rest

abbrev pub decreases-types : goal.decreases-types
decreases-types l = length l.rest
