use Rattle.rv64_machine.proofs.Sides.{zeros_down}
use Rattle.rv64_machine.proofs.stack.Stack.new.Goals as goal

pub returns : goal.returns
returns c = zeros_down 0x7000_0000 0x100_0000 c.in_ok-with_capacity.field-0.items c.in_ok-with_capacity.ensures.items
