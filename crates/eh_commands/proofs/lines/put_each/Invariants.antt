use Rattle.std.proofs.Common.{length, map}
use Rattle.eh_commands.proofs.EachLine.{EachSoFar}
use Rattle.eh_commands.proofs.lines.put_each.Given as goal

abbrev pub invariant-loop-line : goal.invariant-loop-line
invariant-loop-line g l = EachSoFar (map (λ line. line.items) l.initial.rest) (map (λ line. line.items) l.rest) (g.Out.Sink.view l.initial.out) (g.Out.Sink.view l.out)

abbrev pub decreases-loop-line : goal.decreases-loop-line
decreases-loop-line g l = length l.rest
