use Rattle.std.proofs.Common.{◌≡◌, map, length}
use Rattle.frame_read.specs.SeenParts.{placed_seen}
use Rattle.frame_read.specs.SeenSweep.{sweep_seen}
use Rattle.frame_read.specs.Sweep.{sweep_from, first_overlap}
use Rattle.frame_read.proofs.overlap.swept.Given as goal

abbrev pub invariant-regions : goal.invariant-regions
invariant-regions l =
    sweep_from (sweep_seen l.sweep) (map placed_seen l.rest) ≡ first_overlap (map placed_seen l.regions)

abbrev pub decreases-regions : goal.decreases-regions
decreases-regions l = length l.rest
