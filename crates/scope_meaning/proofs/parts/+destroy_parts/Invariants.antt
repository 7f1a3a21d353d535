use Rattle.std.proofs.Common.{length}
use Rattle.scope_meaning.proofs.parts.+destroy_parts.Given as goal

abbrev pub decreases-destroy_parts : goal.decreases-destroy_parts
decreases-destroy_parts g l = length l.types.now
