use Rattle.std.proofs.Common.{◌-◌, ◌∙◌, ap}
use Rattle.rv64_machine.specs.Bytes.{number_at, size_of}
use Rattle.rv64_machine.proofs.Sides.{access_up, spans_up}
use Rattle.rv64_machine.proofs.slots.Slots.near.Goals as goal

pub returns-clause-spans : goal.returns-clause-spans
returns-clause-spans c =
    spans_up 0x6000_0000 0x40_0000 c.self.inside.bytes c.args.self.now c.args.address (size_of c.args.size) c.bytes.result c.len.result c.self.view_is c.self.invariant c.len.ensures c.bytes.ensures
    c.if-not-touches.ensures.from c.if-not-touches.ensures.to

pub returns-clause-value : goal.returns-clause-value
returns-clause-value c =
    access_up 0x6000_0000 0x40_0000 c.self.inside.bytes.items c.args.self.now c.args.address (size_of c.args.size) c.number_at.result c.self.view_is
    (c.number_at.ensures.value ∙ ap (λ bytes. number_at bytes (c.args.address - 0x6000_0000) (size_of c.args.size)) c.deref.ensures.value)
