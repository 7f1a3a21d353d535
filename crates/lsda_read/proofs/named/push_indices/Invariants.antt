use Rattle.std.proofs.Common.{◌≡◌, ◌++◌, length}
use Rattle.std.specs.Prelude.{flat_map, Contains}
use Rattle.std.specs.List.{AllByRecursion}
use Rattle.lsda_read.specs.Names.{lists_named}
use Rattle.lsda_read.specs.WholeTable.{indices_at}
use Rattle.lsda_read.proofs.named.push_indices.Given as goal

abbrev pub invariant-lists : goal.invariant-lists
invariant-lists l =
    (l.initial.indices.items ++ flat_map (indices_at l.table) l.lists ≡ l.indices.items ++ flat_map (indices_at l.table) l.rest) ×
    AllByRecursion (Contains (lists_named l.table)) l.rest

abbrev pub decreases-lists : goal.decreases-lists
decreases-lists l = length l.rest
