use Rattle.std.proofs.Common.{◌≡◌, ◌++◌, length}
use Rattle.std.specs.Prelude.{flat_map, Contains}
use Rattle.std.specs.List.{AllByRecursion}
use Rattle.lsda_read.specs.Names.{lists_named}
use Rattle.table_dump.specs.Tables.{list_line}
use Rattle.lsda_read.specs.WholeTable.{indices_at}
use Rattle.table_dump.proofs.line.put_lists.Given as goal

abbrev pub invariant-lists : goal.invariant-lists
invariant-lists l =
    (l.initial.out.items ++ flat_map (λ j. list_line (j, indices_at l.table j)) l.lists ≡ l.out.items ++ flat_map (λ j. list_line (j, indices_at l.table j)) l.rest) ×
    AllByRecursion (Contains (lists_named l.table)) l.rest

abbrev pub decreases-lists : goal.decreases-lists
decreases-lists l = length l.rest
