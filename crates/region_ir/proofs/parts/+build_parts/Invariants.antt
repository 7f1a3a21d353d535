use Rattle.std.proofs.Common.{length}
use Rattle.region_ir.proofs.parts.+build_parts.Given as goal

abbrev pub decreases-build_parts : goal.decreases-build_parts
decreases-build_parts l = length l.types.now
