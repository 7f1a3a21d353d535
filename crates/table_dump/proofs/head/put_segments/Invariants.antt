use Rattle.std.proofs.Common.{◌≡◌, ◌++◌, length, map}
use Rattle.std.specs.Prelude.{flat_map}
use Rattle.std.specs.List.{AllByRecursion}
use Rattle.eh_bytes.specs.Memory.{part_of}
use Rattle.table_dump.specs.Heads.{segment_line}
use Rattle.table_dump.specs.Listed.{EndsInSpace}
use Rattle.table_dump.proofs.head.put_segments.Given as goal

abbrev pub invariant-segments : goal.invariant-segments
invariant-segments l =
    (l.initial.out.items ++ flat_map segment_line (map part_of l.segments) ≡ l.out.items ++ flat_map segment_line (map part_of l.rest)) ×
    AllByRecursion EndsInSpace l.rest

abbrev pub decreases-segments : goal.decreases-segments
decreases-segments l = length l.rest
