use Rattle.std.proofs.Common.{◌-◌, ◌∙◌, ap}
use Rattle.std.specs.Prelude.{slice_index}
use Rattle.rv64_machine.proofs.Sides.{byte_up}
use Rattle.rv64_machine.proofs.slots.Slots.byte.Goals as goal

pub returns-clause-value : goal.returns-clause-value
returns-clause-value c =
    byte_up 0x6000_0000 0x40_0000 c.self.inside.bytes.items c.args.self.now c.args.address c.from.result c.self.view_is
    (c.from.ensures ∙ c.byte_at.ensures ∙ ap (λ bytes. slice_index bytes (c.args.address - 0x6000_0000)) c.deref.ensures.value)
