use Rattle.std.proofs.Common.{length}
use Rattle.region_ir.proofs.parts.+destroy_parts.Given as goal

abbrev pub decreases-destroy_parts : goal.decreases-destroy_parts
decreases-destroy_parts l = length l.types.now
