use Rattle.std.proofs.Common.{◌≡◌, ◌++◌, length}
use Rattle.std.specs.Prelude.{flat_map, Contains}
use Rattle.std.specs.List.{AllByRecursion}
use Rattle.lsda_read.specs.Names.{actions_named}
use Rattle.lsda_read.specs.WholeTable.{filters_at}
use Rattle.lsda_read.proofs.named.filters_of.Given as goal

abbrev pub invariant-actions : goal.invariant-actions
invariant-actions l =
    (flat_map (filters_at l.table) l.actions ≡ l.filters.items ++ flat_map (filters_at l.table) l.rest) × AllByRecursion (Contains (actions_named l.table)) l.rest

abbrev pub decreases-actions : goal.decreases-actions
decreases-actions l = length l.rest
