use Rattle.std.proofs.Common.{◌≡◌, ◌++◌, length}
use Rattle.std.specs.Prelude.{flat_map}
use Rattle.std.specs.List.{AllByRecursion}
use Rattle.table_dump.specs.Listed.{StandsIn, listed_line}
use Rattle.table_dump.proofs.head.put_cies.Given as goal

abbrev pub invariant-cies : goal.invariant-cies
invariant-cies l =
    (l.initial.out.items ++ flat_map (listed_line l.base) l.cies ≡ l.out.items ++ flat_map (listed_line l.base) l.rest) × AllByRecursion (StandsIn l.base) l.rest

abbrev pub decreases-cies : goal.decreases-cies
decreases-cies l = length l.rest
