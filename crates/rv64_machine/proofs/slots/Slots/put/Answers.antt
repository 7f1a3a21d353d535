use Rattle.std.proofs.Common.{◌≤◌, ◌+◌, ◌-◌, arith}
use Rattle.std.specs.Prelude.{length}
use Rattle.rv64_machine.specs.Bytes.{size_of}
use Rattle.rv64_machine.proofs.Sides.{long_put, not_grown, put_up}
use Rattle.rv64_machine.proofs.slots.Slots.put.Goals as goal

pub returns-then-touches-clause-bytes : goal.returns-then-touches-clause-bytes
returns-then-touches-clause-bytes c =
    let whole = c.self.inside.bytes.ok.0 in
    let inside : (c.args.address - 0x6000_0000) + size_of c.args.size ≤ length c.self.inside.bytes.items = omega (arith, c.len.ensures, c.bytes.ensures, c.if-touches.ensures.from, c.if-touches.ensures.to) in
    put_up 0x6000_0000 0x40_0000 c.self.inside.bytes c.self.inside.bytes c.deref_mut.result.now c.put_number.new.bytes c.args.self.now c.args.address (size_of c.args.size) c.args.value c.self.view_is c.self.invariant (not_grown c.self.inside.bytes.items)
    c.deref_mut.ensures.value c.put_number.ensures inside

pub returns-then-touches-clause-long : goal.returns-then-touches-clause-long
returns-then-touches-clause-long c = long_put _ c.args.self.now (c.args.address - c.args.self.now.address) (size_of c.args.size) c.args.value (returns-then-touches-clause-bytes c)
