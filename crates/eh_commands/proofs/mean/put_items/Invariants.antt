use Rattle.std.proofs.Common.{length}
use Rattle.eh_commands.proofs.Meanings.{ItemsSoFar}
use Rattle.eh_commands.proofs.mean.put_items.Given as goal

abbrev pub invariant-loop-first : goal.invariant-loop-first
invariant-loop-first g l = ItemsSoFar l.trace l.initial.rest l.rest (g.Out.Sink.view l.initial.out) (g.Out.Sink.view l.out)

abbrev pub decreases-loop-first : goal.decreases-loop-first
decreases-loop-first g l = length l.rest
