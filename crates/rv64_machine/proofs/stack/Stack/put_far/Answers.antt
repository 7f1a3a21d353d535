use Rattle.std.proofs.Common.{◌-◌, refl, arith}
use Rattle.rv64_machine.specs.Bytes.{size_of}
use Rattle.rv64_machine.specs.Reserved.{filled_down}
use Rattle.rv64_machine.proofs.Sides.{from_data, long_down, long_put, put_down, within}
use Rattle.rv64_machine.proofs.stack.Stack.put_far.Goals as goal

pub overflow_sub-at : goal.overflow_sub-at
overflow_sub-at c =
    let from = from_data 0x7000_0000 (filled_down 0x100_0000 c.self.inside.bytes.items) c.args.self.now c.self.view_is in
    let long = long_down 0x7000_0000 0x100_0000 c.self.inside.bytes c.args.self.now c.self.view_is c.self.invariant in
    let inside = within 0x7000_0000 0x100_0000 c.args.self.now c.args.address (size_of c.args.size) from long c.requires in
    let low = inside.0 in
    let high = inside.1 in
    omega arith

pub put_number_below-requires-clause-from : goal.put_number_below-requires-clause-from
put_number_below-requires-clause-from c =
    let from = from_data 0x7000_0000 (filled_down 0x100_0000 c.self.inside.bytes.items) c.args.self.now c.self.view_is in
    let long = long_down 0x7000_0000 0x100_0000 c.self.inside.bytes c.args.self.now c.self.view_is c.self.invariant in
    let inside = within 0x7000_0000 0x100_0000 c.args.self.now c.args.address (size_of c.args.size) from long c.requires in
    let low = inside.0 in
    let high = inside.1 in
    omega arith

pub returns-clause-bytes : goal.returns-clause-bytes
returns-clause-bytes c =
    let from = from_data 0x7000_0000 (filled_down 0x100_0000 c.self.inside.bytes.items) c.args.self.now c.self.view_is in
    let long = long_down 0x7000_0000 0x100_0000 c.self.inside.bytes c.args.self.now c.self.view_is c.self.invariant in
    let inside = within 0x7000_0000 0x100_0000 c.args.self.now c.args.address (size_of c.args.size) from long c.requires in
    let low = inside.0 in
    let high = inside.1 in
    put_down 0x7000_0000 0x100_0000 0x7100_0000 c.self.inside.bytes c.grow.new.bytes c.deref_mut.result.now c.put_number_below.new.bytes c.args.self.now c.args.address (size_of c.args.size) c.args.value
    c.self.view_is c.grow.ensures.room c.grow.ensures.grown c.deref_mut.ensures.value c.put_number_below.ensures refl low high c.grow.ensures.enough

pub returns-clause-long : goal.returns-clause-long
returns-clause-long c = long_put _ c.args.self.now (c.args.address - c.args.self.now.address) (size_of c.args.size) c.args.value (returns-clause-bytes c)
