use Rattle.std.proofs.Common.{◌≡◌, ◌++◌, drop}
use Rattle.machine_forms.specs.KeptCode.{saves}
use Rattle.machine_forms.specs.Registers.{saved_registers}
use Rattle.rv64_emit.proofs.saving.put_saves.Given as goal

-- the code so far, and that of what is left
abbrev pub invariant-loop-place : goal.invariant-loop-place
invariant-loop-place l = l.code ++ saves l.frame l.parameters (drop l.place saved_registers) (drop l.place l.kept) ≡ l.initial.code ++ saves l.frame l.parameters saved_registers l.kept
