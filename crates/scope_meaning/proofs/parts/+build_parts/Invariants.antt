use Rattle.std.proofs.Common.{length}
use Rattle.scope_meaning.proofs.parts.+build_parts.Given as goal

abbrev pub decreases-build_parts : goal.decreases-build_parts
decreases-build_parts g l = length l.types.now
