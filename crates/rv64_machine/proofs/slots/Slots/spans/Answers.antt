use Rattle.std.proofs.Common.{refl}
use Rattle.rv64_machine.proofs.Sides.{on_both, spans_up}
use Rattle.rv64_machine.proofs.slots.Slots.spans.Goals as goal

pub returns : goal.returns
returns c =
    on_both c.touches.result _ _ _ c.touches.ensures.from c.touches.ensures.to
    (λ low high. spans_up 0x6000_0000 0x40_0000 c.self.inside.bytes c.args.self.now c.args.address c.args.size c.args.size c.len.result c.self.view_is c.self.invariant c.len.ensures refl low high)
