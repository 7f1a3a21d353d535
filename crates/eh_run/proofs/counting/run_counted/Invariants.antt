use Rattle.std.proofs.Common.{map}
use Rattle.eh_run.proofs.Tallied.{Counting}
use Rattle.eh_run.proofs.counting.run_counted.Given as goal

abbrev pub invariant-loop-count : goal.invariant-loop-count
invariant-loop-count g l = Counting l.fn.loaded l.input (map g.M.Module.view l.fn.host.modules.items) l.count l.runtime (map g.M.Module.view l.host.modules.items) l.lines l.makes
