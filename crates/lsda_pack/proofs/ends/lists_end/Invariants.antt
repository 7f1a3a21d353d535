use Rattle.std.proofs.Common.{◌≡◌, ◌<◌, ◌^◌, length}
use Rattle.std.specs.Prelude.{fold, max}
use Rattle.lsda_pack.specs.Ends.{list_stops}
use Rattle.lsda_pack.proofs.ends.lists_end.Given as goal

abbrev pub invariant-lists : goal.invariant-lists
invariant-lists l = (fold max l.before (list_stops l.bytes l.base l.lists) ≡ fold max l.end (list_stops l.bytes l.base l.rest)) × (l.end < 2 ^ 67)

abbrev pub decreases-lists : goal.decreases-lists
decreases-lists l = length l.rest
