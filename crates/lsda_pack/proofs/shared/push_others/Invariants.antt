use Rattle.std.proofs.Common.{◌≡◌, ◌++◌, length, map}
use Rattle.lsda_pack.specs.Reaches.{taken_reach}
use Rattle.lsda_pack.proofs.shared.push_others.Given as goal

abbrev pub invariant-others : goal.invariant-others
invariant-others l = l.initial.reaches.items ++ map taken_reach l.others ≡ l.reaches.items ++ map taken_reach l.rest

abbrev pub decreases-others : goal.decreases-others
decreases-others l = length l.rest
