use Rattle.std.proofs.Common.{◌≡◌, ◌++◌, length, map}
use Rattle.std.specs.Prelude.{Contains}
use Rattle.std.specs.List.{AllByRecursion}
use Rattle.lsda_read.specs.Names.{lists_named}
use Rattle.lsda_read.specs.WholeTable.{indices_at}
use Rattle.lsda_pack.proofs.listing.lists_listed.Given as goal

abbrev pub invariant-lists : goal.invariant-lists
invariant-lists l =
    (map (indices_at l.table) l.lists ≡ map (λ x. x.items) l.listed.items ++ map (indices_at l.table) l.rest) ×
    AllByRecursion (Contains (lists_named l.table)) l.rest

abbrev pub decreases-lists : goal.decreases-lists
decreases-lists l = length l.rest
