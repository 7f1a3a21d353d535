use Rattle.rv64_machine.proofs.Steps.{misaligned, unmapped, illegal, executed}
use Rattle.rv64_machine.proofs.machine.Machine.step.Goals as goal

pub returns-then-self-ne0 : goal.returns-then-self-ne0
returns-then-self-ne0 c =
    let inside = c.self.inside in
    misaligned c.args.self.now inside.pc inside.regs inside.memory c.self.view_is c.if-self-ne0.true

pub returns-in-None : goal.returns-in-None
returns-in-None c =
    let inside = c.self.inside in
    unmapped c.args.self.now inside.pc inside.regs inside.memory c.fetch.new.self c.self.view_is c.if-self-ne0.false c.in-None.ensures.value c.in-None.ensures.same

pub returns-in-None-instr_at : goal.returns-in-None-instr_at
returns-in-None-instr_at c =
    let inside = c.self.inside in
    illegal c.args.self.now inside.pc inside.regs inside.memory c.fetch.new.self c.in-Some.word c.self.view_is c.if-self-ne0.false c.in-Some.ensures.value c.in-None-instr_at.ensures c.in-Some.ensures.same

pub returns-in-Some-instr_at : goal.returns-in-Some-instr_at
returns-in-Some-instr_at c =
    let inside = c.self.inside in
    executed c.args.self.now inside.pc inside.regs inside.memory c.fetch.new.self c.in-Some.word c.in-Some-instr_at.instr _ c.self.view_is c.if-self-ne0.false c.in-Some.ensures.value
    c.in-Some-instr_at.ensures c.in-Some.ensures.same c.execute.ensures
