use Rattle.rv64_machine.specs.Reserved.{filled_up}
use Rattle.rv64_machine.proofs.Sides.{from_data, long_up, covers_up}
use Rattle.rv64_machine.proofs.slots.Slots.covers.Goals as goal

pub returns-then-address-ge-ADDRESS : goal.returns-then-address-ge-ADDRESS
returns-then-address-ge-ADDRESS c =
    let from = from_data 0x6000_0000 (filled_up 0x40_0000 c.self.inside.bytes.items) c.args.self.now c.self.view_is in
    let long = long_up 0x6000_0000 0x40_0000 c.self.inside.bytes c.args.self.now c.self.view_is c.self.invariant in
    covers_up 0x6000_0000 0x40_0000 c.args.self.now c.args.address from long c.if-address-ge-ADDRESS.true
