use Rattle.std.proofs.Common.{◌≡◌, ◌++◌, length}
use Rattle.std.specs.Prelude.{flat_map, Contains}
use Rattle.std.specs.List.{AllByRecursion}
use Rattle.eh_bytes.specs.Memory.{memory_of}
use Rattle.lsda_read.specs.Names.{types_named}
use Rattle.lsda_read.specs.WholeTable.{value_of}
use Rattle.image_doubts.specs.Doubts.{nowhere_line}
use Rattle.image_doubts.proofs.types.put_each.Given as goal

abbrev pub invariant-types : goal.invariant-types
invariant-types l =
    (l.initial.out.items ++ flat_map (λ i. nowhere_line (memory_of l.memory) l.region (i, value_of l.table i)) l.types ≡
    l.out.items ++ flat_map (λ i. nowhere_line (memory_of l.memory) l.region (i, value_of l.table i)) l.rest) ×
    AllByRecursion (Contains (types_named l.table)) l.rest

abbrev pub decreases-types : goal.decreases-types
decreases-types l = length l.rest
