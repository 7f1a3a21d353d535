use Rattle.std.proofs.Common.{◌≡◌, ◌++◌, length, map}
use Rattle.lsda_pack.specs.Reaches.{header_taken}
use Rattle.lsda_pack.proofs.gathered.segments_taken.Given as goal

abbrev pub invariant-loads : goal.invariant-loads
invariant-loads l = map header_taken l.loads ≡ l.taken.items ++ map header_taken l.rest

abbrev pub decreases-loads : goal.decreases-loads
decreases-loads l = length l.rest
