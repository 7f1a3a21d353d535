use Rattle.std.proofs.Common.{◌≡◌, arith}
use Rattle.caught_stack.proofs.Headers.{both_counts}
use Rattle.caught_stack.proofs.stack.CaughtStack.live.Goals as goal

pub returns : goal.returns
returns c =
    let kept = c.self.invariant in
    let free = kept.vacant_all in
    let all = kept.headers_length in
    let size = c.len.ensures in
    let both = both_counts c.self.inside.nodes.live in rw (← c.self.view_is) (omega (arith, free, all, size, both))
