use Rattle.std.proofs.Common.{◌≡◌, ◌++◌, drop}
use Rattle.machine_forms.specs.KeptCode.{save_moves}
use Rattle.machine_forms.specs.Registers.{saved_registers}
use Rattle.rv64_emit.proofs.moves.put_save_moves.Given as goal

-- the moves so far, and those of what is left
abbrev pub invariant-loop-place : goal.invariant-loop-place
invariant-loop-place l =
    l.moves.items ++ save_moves l.frame l.parameters l.next (drop l.place saved_registers) (drop l.place l.kept)
    ≡ l.initial.moves.items ++ save_moves l.frame l.parameters l.first saved_registers l.kept
