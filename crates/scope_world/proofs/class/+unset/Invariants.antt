use Rattle.std.proofs.Common.{◌+◌, ◌*◌, length}
use Rattle.scope_world.proofs.class.+unset.Given as goal

abbrev pub decreases-unset_within : goal.decreases-unset_within
decreases-unset_within l = l.most * 18446744073709551616

abbrev pub decreases-unset_parts : goal.decreases-unset_parts
decreases-unset_parts l = l.most * 18446744073709551616 + length l.types.now + 1
