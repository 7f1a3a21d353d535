use Rattle.std.proofs.Common.{◌≡◌, ◌∙◌, ap, length, arith, ◌∷◌, rules}
use Rattle.caught_stack.specs.Slots.{below}
use Rattle.caught_stack.proofs.Stacks.{length-below, below_more}
use Rattle.caught_stack.proofs.slots.SlotStack.full.Goals as goal

pub loop-slot-init : goal.loop-slot-init
unfolding below
loop-slot-init c = search rules

pub push-requires : goal.push-requires
push-requires c =
    let long : length c.loop-slot.stack ≡ c.loop-slot.slot = ap length c.loop-slot.invariant ∙ length-below c.loop-slot.slot in
    omega arith

pub loop-slot-preserved : goal.loop-slot-preserved
loop-slot-preserved c = c.push.ensures ∙ ap (λ stack. c.loop-slot.slot ∷ stack) c.loop-slot.invariant ∙ below_more c.loop-slot.slot
