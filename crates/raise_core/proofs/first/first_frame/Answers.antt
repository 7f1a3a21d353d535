use Rattle.std.proofs.Common.{slice_set, length-set, refl, ap, ◌∙◌}
use Rattle.raise_core.proofs.Registers.{none_read, read_next}
use Rattle.raise_core.proofs.first.first_frame.Goals as goal

pub registers-init : goal.registers-init
registers-init c = (refl, none_read c.args.machine.now.regs)

pub registers-preserved : goal.registers-preserved
registers-preserved c =
    let n = c.registers.number in let v = c.reg.result in (
      length-set c.registers.regs n v ∙ c.registers.invariant.0,
      ap (λ regs. slice_set regs n v) c.registers.invariant.1 ∙ read_next n v c.args.machine.now.regs c.registers-test.true c.reg.ensures,
    )
