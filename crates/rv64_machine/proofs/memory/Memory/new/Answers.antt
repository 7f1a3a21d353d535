use Rattle.rv64_machine.proofs.Sides.{laid_out}
use Rattle.rv64_machine.proofs.memory.Memory.new.Goals as goal

pub invariant_of-result : goal.invariant_of-result
invariant_of-result c = laid_out c.in_ok-new.field-0 c.in_ok-new-2.field-0 c.args.segments.parts.items c.in_ok-new.ensures c.in_ok-new-2.ensures c.requires
