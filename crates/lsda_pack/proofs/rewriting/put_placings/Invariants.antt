use Rattle.std.proofs.Common.{◌≡◌, length}
use Rattle.std.specs.Prelude.{fold}
use Rattle.std.specs.List.{AllByRecursion}
use Rattle.lsda_pack.specs.Counted.{HasRoom, packing_seen, put_placing}
use Rattle.lsda_pack.proofs.rewriting.put_placings.Given as goal

abbrev pub invariant-placings : goal.invariant-placings
invariant-placings l =
    AllByRecursion (HasRoom (length l.packed.bytes.items)) l.rest ×
    (fold put_placing (packing_seen l.initial.packed) l.placings ≡ fold put_placing (packing_seen l.packed) l.rest)

abbrev pub decreases-placings : goal.decreases-placings
decreases-placings l = length l.rest
