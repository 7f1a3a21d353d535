use Rattle.std.proofs.Common.{map}
use Rattle.eh_outer.specs.Module.{ScriptView}
use Rattle.hart_sched.proofs.Slices.{SoFar}
use Rattle.hart_sched.proofs.seat.Seat.take_turns.Given as goal

abbrev pub invariant-loop-taken : goal.invariant-loop-taken
invariant-loop-taken g l =
    SoFar l.number l.taken l.trace l.others l.fn.self l.self (map (λ (m : ScriptView). m.seen) l.fn.host.modules.items) (map (λ (m : ScriptView). m.seen) l.host.modules.items) (g.S.Sink.view l.fn.sink) (g.S.Sink.view l.sink)
