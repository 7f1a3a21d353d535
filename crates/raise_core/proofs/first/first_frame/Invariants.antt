use Rattle.std.proofs.Common.{◌≡◌, length}
use Rattle.raise_core.proofs.Registers.{read_so_far}
use Rattle.raise_core.proofs.first.first_frame.Given as goal

abbrev pub invariant-registers : goal.invariant-registers
invariant-registers l = (length l.regs ≡ 64) × (l.regs ≡ read_so_far l.number l.machine.regs)
