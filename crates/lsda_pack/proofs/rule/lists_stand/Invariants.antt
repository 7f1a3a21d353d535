use Rattle.std.proofs.Common.{◌≡◌, ◌<◌, ◌^◌, length}
use Rattle.std.specs.Prelude.{Contains}
use Rattle.std.specs.List.{AllByRecursion}
use Rattle.lsda_read.specs.Names.{lists_named}
use Rattle.lsda_read.specs.WholeTable.{indices_at}
use Rattle.lsda_pack.specs.MayPack.{stand_from}
use Rattle.lsda_pack.proofs.rule.lists_stand.Given as goal

abbrev pub invariant-lists : goal.invariant-lists
invariant-lists l =
    (stand_from l.bytes l.base (indices_at l.table) 0 l.lists ≡ stand_from l.bytes l.base (indices_at l.table) l.taken l.rest) ×
    AllByRecursion (Contains (lists_named l.table)) l.rest × (l.taken < 2 ^ 66)

abbrev pub decreases-lists : goal.decreases-lists
decreases-lists l = length l.rest
