use Rattle.std.specs.Prelude.{slice_index}
use Rattle.std.proofs.Common.{◌+◌, ◌-◌, ◌≤◌, ◌<◌, length}
use Rattle.lsda_read.proofs.demands.count_below.Given as goal

abbrev pub invariant-halves : goal.invariant-halves
invariant-halves l = (l.low ≤ l.high) × (l.high ≤ length l.pads) × (0 < l.low → l.start + slice_index l.pads (l.low - 1) < l.end)

abbrev pub decreases-halves : goal.decreases-halves
decreases-halves l = l.high - l.low
