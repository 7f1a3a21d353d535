use Rattle.std.proofs.Common.{map}
use Rattle.eh_run.proofs.Going.{Going}
use Rattle.eh_run.proofs.running.run.Given as goal

abbrev pub invariant-loop-count : goal.invariant-loop-count
invariant-loop-count g l =
    Going l.fn.loaded l.input l.trace (map g.M.Module.view l.fn.host.modules.items) (g.S.Sink.view l.fn.sink) l.count l.runtime (map g.M.Module.view l.host.modules.items) (g.S.Sink.view l.sink)
