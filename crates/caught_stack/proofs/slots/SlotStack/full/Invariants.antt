use Rattle.std.proofs.Common.{◌≡◌}
use Rattle.caught_stack.specs.Slots.{below}
use Rattle.caught_stack.proofs.slots.SlotStack.full.Given as goal

abbrev pub invariant-loop-slot : goal.invariant-loop-slot
invariant-loop-slot l = l.stack ≡ below l.slot
