use Rattle.std.proofs.Common.{◌+◌, ◌-◌, sym, ap, ◌∙◌}
use Rattle.rv64_isa.specs.State.{State, state}
use Rattle.raise_core.specs.Raise.{with_registers}
use Rattle.raise_core.proofs.Registers.{set_next, all_set}
use Rattle.raise_core.proofs.enter.restore.Goals as goal

pub registers-preserved : goal.registers-preserved
registers-preserved c =
    let n = c.registers.number in let values = c.args.frame.now.regs in (
      c.registers.invariant.0 ∙ set_next n values c.registers.machine.regs c.registers-test.true ∙
          ap (λ (m : State). with_registers (n + 1) (32 - (n + 1)) values m.regs) (sym c.set_reg.ensures),
      ap (λ (m : State). m.memory) c.set_reg.ensures ∙ c.registers.invariant.1,
      ap (λ (m : State). m.pc) c.set_reg.ensures ∙ c.registers.invariant.2,
    )

pub returns : goal.returns
returns c =
    let m = c.registers.machine in let before = c.args.machine.now in let values = c.args.frame.now.regs in
    let regs = with_registers 0 32 values before.regs in
    ap (λ r. state m.pc r m.memory) (sym (c.registers.invariant.0 ∙ all_set c.registers.number values m.regs c.registers-test.false)) ∙
    ap (λ pc. state pc regs m.memory) c.registers.invariant.2 ∙ ap (λ memory. state before.pc regs memory) c.registers.invariant.1
