use Rattle.std.proofs.Common.{◌≡◌, ◌++◌, length, map}
use Rattle.lsda_pack.specs.Reaches.{part_reach}
use Rattle.lsda_pack.proofs.file_shared.push_parts.Given as goal

abbrev pub invariant-parts : goal.invariant-parts
invariant-parts l = l.initial.reaches.items ++ map part_reach l.parts ≡ l.reaches.items ++ map part_reach l.rest

abbrev pub decreases-parts : goal.decreases-parts
decreases-parts l = length l.rest
