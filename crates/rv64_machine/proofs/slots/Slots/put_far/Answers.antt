use Rattle.std.proofs.Common.{◌≤◌, ◌+◌, ◌-◌, arith}
use Rattle.std.specs.Prelude.{length}
use Rattle.rv64_machine.specs.Bytes.{size_of}
use Rattle.rv64_machine.specs.Reserved.{filled_up}
use Rattle.rv64_machine.proofs.Sides.{from_data, long_put, long_up, put_up, within}
use Rattle.rv64_machine.proofs.slots.Slots.put_far.Goals as goal

pub grow-requires-clause-inside : goal.grow-requires-clause-inside
grow-requires-clause-inside c =
    let from = from_data 0x6000_0000 (filled_up 0x40_0000 c.self.inside.bytes.items) c.args.self.now c.self.view_is in
    let long = long_up 0x6000_0000 0x40_0000 c.self.inside.bytes c.args.self.now c.self.view_is c.self.invariant in
    let inside = within 0x6000_0000 0x40_0000 c.args.self.now c.args.address (size_of c.args.size) from long c.requires in
    let low = inside.0 in
    let high = inside.1 in
    omega (arith, c.bytes.ensures)

pub returns-clause-bytes : goal.returns-clause-bytes
returns-clause-bytes c =
    let inside : (c.args.address - 0x6000_0000) + size_of c.args.size ≤ length c.grow.new.bytes.items = omega (arith, c.grow.ensures.enough, c.bytes.ensures) in
    put_up 0x6000_0000 0x40_0000 c.self.inside.bytes c.grow.new.bytes c.deref_mut.result.now c.put_number.new.bytes c.args.self.now c.args.address (size_of c.args.size) c.args.value c.self.view_is c.grow.ensures.room c.grow.ensures.grown
    c.deref_mut.ensures.value c.put_number.ensures inside

pub returns-clause-long : goal.returns-clause-long
returns-clause-long c = long_put _ c.args.self.now (c.args.address - c.args.self.now.address) (size_of c.args.size) c.args.value (returns-clause-bytes c)
