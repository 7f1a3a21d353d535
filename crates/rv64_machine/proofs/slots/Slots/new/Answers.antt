use Rattle.rv64_machine.proofs.Sides.{zeros_up}
use Rattle.rv64_machine.proofs.slots.Slots.new.Goals as goal

pub returns : goal.returns
returns c = zeros_up 0x6000_0000 0x40_0000 c.in_ok-with_capacity.field-0.items c.in_ok-with_capacity.ensures.items
