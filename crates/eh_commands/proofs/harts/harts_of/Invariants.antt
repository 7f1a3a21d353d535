use Rattle.eh_commands.specs.HartFiles.{kept_bytes}
use Rattle.eh_commands.proofs.HartsCauses.{ReadySoFar}
use Rattle.eh_commands.proofs.harts.harts_of.Given as goal

abbrev pub invariant-loop-input : goal.invariant-loop-input
invariant-loop-input l = ReadySoFar l.image (kept_bytes l.yielded) l.harts.items
