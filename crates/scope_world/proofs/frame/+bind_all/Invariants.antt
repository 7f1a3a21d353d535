use Rattle.std.proofs.Common.{length}
use Rattle.scope_world.proofs.frame.+bind_all.Given as goal

abbrev pub decreases-bind_all : goal.decreases-bind_all
decreases-bind_all g l = length l.parameters.now
