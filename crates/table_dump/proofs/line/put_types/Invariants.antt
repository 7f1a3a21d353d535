use Rattle.std.proofs.Common.{◌≡◌, ◌++◌, length}
use Rattle.std.specs.Prelude.{flat_map, Contains}
use Rattle.std.specs.List.{AllByRecursion}
use Rattle.lsda_read.specs.Names.{types_named}
use Rattle.table_dump.specs.Tables.{type_line}
use Rattle.lsda_read.specs.WholeTable.{value_of}
use Rattle.table_dump.proofs.line.put_types.Given as goal

abbrev pub invariant-types : goal.invariant-types
invariant-types l =
    (l.initial.out.items ++ flat_map (λ i. type_line (i, value_of l.table i)) l.types ≡ l.out.items ++ flat_map (λ i. type_line (i, value_of l.table i)) l.rest) ×
    AllByRecursion (Contains (types_named l.table)) l.rest

abbrev pub decreases-types : goal.decreases-types
decreases-types l = length l.rest
