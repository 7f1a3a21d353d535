use Rattle.std.proofs.Common.{◌≡◌, ◌+◌, ◌*◌, ◌≤◌, ◌^◌, length}
use Rattle.std.specs.List.{AllByRecursion}
use Rattle.std.specs.Ordering.{nat_cmp}
use Rattle.std.specs.BTreeMap.{get}
use Rattle.eh_bytes.specs.Memory.{memory_of}
use Rattle.table_check.specs.Known.{AreKnown}
use Rattle.table_check.specs.Tally.{IsFit, tallied}
use Rattle.table_check.proofs.tables.count_tables.Given as goal

abbrev pub invariant-fdes : goal.invariant-fdes
invariant-fdes l =
    (tallied (memory_of l.memory) 0 0 l.fdes ≡ tallied (memory_of l.memory) l.tables l.sites l.rest) × AllByRecursion IsFit l.rest ×
    (l.tables + length l.rest ≤ 2 ^ 30) × (l.sites + length l.rest * (2 ^ 30 + 1) ≤ 2 ^ 30 * (2 ^ 30 + 1)) ×
    AreKnown (memory_of l.memory) (get nat_cmp l.known)

abbrev pub decreases-fdes : goal.decreases-fdes
decreases-fdes l = length l.rest
