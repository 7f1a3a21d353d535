use Rattle.std.proofs.Common.{refl}
use Rattle.rv64_machine.proofs.Sides.{on_both, spans_down}
use Rattle.rv64_machine.proofs.stack.Stack.spans.Goals as goal

pub returns : goal.returns
returns c =
    on_both c.touches.result _ _ _ c.touches.ensures.to c.touches.ensures.from
    (λ high low. spans_down 0x7000_0000 0x100_0000 0x7100_0000 c.self.inside.bytes c.args.self.now c.args.address c.args.size c.args.size c.len.result c.self.view_is c.self.invariant c.len.ensures
    refl refl high low)
