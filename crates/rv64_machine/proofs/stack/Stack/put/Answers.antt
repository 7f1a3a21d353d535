use Rattle.std.proofs.Common.{◌≤◌, ◌-◌, refl, arith}
use Rattle.std.specs.Prelude.{length}
use Rattle.rv64_machine.specs.Bytes.{size_of}
use Rattle.rv64_machine.specs.Reserved.{filled_down}
use Rattle.rv64_machine.proofs.Sides.{from_data, long_down, long_put, not_grown, put_down, within}
use Rattle.rv64_machine.proofs.stack.Stack.put.Goals as goal

pub returns-then-touches-clause-bytes : goal.returns-then-touches-clause-bytes
returns-then-touches-clause-bytes c =
    let from = from_data 0x7000_0000 (filled_down 0x100_0000 c.self.inside.bytes.items) c.args.self.now c.self.view_is in
    let long = long_down 0x7000_0000 0x100_0000 c.self.inside.bytes c.args.self.now c.self.view_is c.self.invariant in
    let inside = within 0x7000_0000 0x100_0000 c.args.self.now c.args.address (size_of c.args.size) from long c.requires in
    let low = inside.0 in
    let high = inside.1 in
    let whole = c.self.inside.bytes.ok.0 in
    let near : 0x7100_0000 - c.args.address ≤ length c.self.inside.bytes.items = omega (arith, c.len.ensures, c.if-touches.ensures.from) in
    put_down 0x7000_0000 0x100_0000 0x7100_0000 c.self.inside.bytes c.self.inside.bytes c.deref_mut.result.now c.put_number_below.new.bytes c.args.self.now c.args.address (size_of c.args.size) c.args.value
    c.self.view_is c.self.invariant (not_grown c.self.inside.bytes.items) c.deref_mut.ensures.value c.put_number_below.ensures refl low high near

pub returns-then-touches-clause-long : goal.returns-then-touches-clause-long
returns-then-touches-clause-long c = long_put _ c.args.self.now (c.args.address - c.args.self.now.address) (size_of c.args.size) c.args.value (returns-then-touches-clause-bytes c)
