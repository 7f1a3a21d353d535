use Rattle.std.proofs.Common.{◌≡◌, ◌++◌, drop}
use Rattle.machine_forms.specs.KeptCode.{restores}
use Rattle.machine_forms.specs.Registers.{saved_registers}
use Rattle.rv64_emit.proofs.saving.put_restores.Given as goal

-- the code so far, and that of what is left
abbrev pub invariant-loop-place : goal.invariant-loop-place
invariant-loop-place l = l.code ++ restores l.frame (drop l.place saved_registers) (drop l.place l.kept) ≡ l.initial.code ++ restores l.frame saved_registers l.kept
