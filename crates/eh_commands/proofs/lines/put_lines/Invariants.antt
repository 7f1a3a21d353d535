use Rattle.std.proofs.Common.{length}
use Rattle.eh_commands.proofs.TextLines.{LinesSoFar}
use Rattle.eh_commands.proofs.lines.put_lines.Given as goal

abbrev pub invariant-loop-rest : goal.invariant-loop-rest
invariant-loop-rest g l = LinesSoFar l.initial.rest l.rest (g.Out.Sink.view l.initial.out) (g.Out.Sink.view l.out)

abbrev pub decreases-loop-rest : goal.decreases-loop-rest
decreases-loop-rest g l = length l.rest
