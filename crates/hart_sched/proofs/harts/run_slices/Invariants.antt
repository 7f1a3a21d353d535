use Rattle.std.proofs.Common.{length, map}
use Rattle.eh_outer.specs.Module.{ScriptView}
use Rattle.hart_sched.proofs.Scheduling.{OnWay}
use Rattle.hart_sched.proofs.harts.run_slices.Given as goal

abbrev pub invariant-loop-slice : goal.invariant-loop-slice
invariant-loop-slice g l =
    OnWay l.schedule l.rest l.trace l.fn.seats.items l.seats.items l.live (map (λ (m : ScriptView). m.seen) l.fn.host.modules.items) (map (λ (m : ScriptView). m.seen) l.host.modules.items) (g.S.Sink.view l.fn.sink) (g.S.Sink.view l.sink)

abbrev pub decreases-loop-slice : goal.decreases-loop-slice
decreases-loop-slice g l = length l.rest
