use Rattle.std.proofs.Common.{◌≡◌, length, drop}
use Rattle.frame_walk.proofs.Rules.{IsSetOr}
use Rattle.frame_walk.proofs.registers.registers_of.Given as goal

abbrev pub invariant-changed : goal.invariant-changed
invariant-changed l =
    (length l.outward ≡ 64) × IsSetOr l.machine l.cfa l.regs l.rules (drop l.at l.changed) l.outward
