use Rattle.std.proofs.Common.{length, map, string_bytes}
use Rattle.eh_commands.proofs.HartReading.{InputsSoFar}
use Rattle.eh_commands.proofs.hart_files.read_inputs.Given as goal

abbrev pub invariant-loop-name : goal.invariant-loop-name
invariant-loop-name g l = InputsSoFar (map string_bytes l.names) (map string_bytes l.rest) (g.St.Store.view l.fn.store) (g.St.Store.view l.store) l.inputs.items

abbrev pub decreases-loop-name : goal.decreases-loop-name
decreases-loop-name g l = length l.rest
