use Rattle.std.proofs.Common.{◌+◌, ◌-◌, ◌*◌}
use Rattle.scope_meaning.proofs.calls.+call+fn-call-closure.Given as goal

abbrev pub decreases-call : goal.decreases-call
decreases-call g l = (128 - l.c.now.depth) * 2 + 1

abbrev pub decreases-closure : goal.decreases-closure
decreases-closure g l = (128 - l.depth) * 2 + 2
