use Rattle.std.proofs.Common.{◌≡◌, ◌++◌, length, map}
use Rattle.std.specs.Prelude.{flat_map, codes}
use Rattle.std.specs.Fmt.{decimal}
use Rattle.table_dump.proofs.line.put_indices.Given as goal

abbrev pub invariant-list : goal.invariant-list
invariant-list l =
    l.initial.out.items ++ flat_map (λ t. codes " " ++ t) (map decimal l.initial.list) ≡ l.out.items ++ flat_map (λ t. codes " " ++ t) (map decimal l.list)

abbrev pub decreases-list : goal.decreases-list
decreases-list l = length l.list
