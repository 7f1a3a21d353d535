use Rattle.std.proofs.Common.{◌≡◌, ◌-◌}
use Rattle.raise_core.specs.Raise.{with_registers}
use Rattle.raise_core.proofs.enter.restore.Given as goal

abbrev pub invariant-registers : goal.invariant-registers
invariant-registers l =
    (with_registers 0 32 l.frame.regs l.initial.machine.regs ≡ with_registers l.number (32 - l.number) l.frame.regs l.machine.regs) ×
    (l.machine.memory ≡ l.initial.machine.memory) × (l.machine.pc ≡ l.initial.machine.pc)
