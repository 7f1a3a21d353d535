use Rattle.std.proofs.Common.{◌≤◌, ◌+◌, ◌-◌, ◌∙◌, ap, refl, arith}
use Rattle.std.specs.Prelude.{vec_len}
use Rattle.rv64_machine.specs.Bytes.{size_of}
use Rattle.rv64_machine.specs.Reserved.{number_below}
use Rattle.rv64_machine.proofs.Sides.{access_down, fits, spans_down}
use Rattle.rv64_machine.proofs.stack.Stack.near.Goals as goal

pub returns-clause-spans : goal.returns-clause-spans
returns-clause-spans c =
    spans_down 0x7000_0000 0x100_0000 0x7100_0000 c.self.inside.bytes c.args.self.now c.args.address (size_of c.args.size) c.bytes.result c.len.result c.self.view_is c.self.invariant c.len.ensures
    c.bytes.ensures refl c.if-not-touches.ensures.to c.if-not-touches.ensures.from

pub returns-clause-value : goal.returns-clause-value
returns-clause-value c =
    let inside : vec_len c.self.inside.bytes ≤ 0x100_0000 = c.self.invariant.0 in
    let low : 0x7000_0000 ≤ c.args.address = omega (arith, c.len.ensures, c.if-not-touches.ensures.from) in
    let high : c.args.address + size_of c.args.size ≤ 0x7100_0000 = omega (arith, c.bytes.ensures, c.if-not-touches.ensures.to) in
    access_down 0x7000_0000 0x100_0000 0x7100_0000 c.self.inside.bytes.items c.args.self.now c.args.address (size_of c.args.size) c.number_below.result c.self.view_is refl
    (fits 0x100_0000 c.self.inside.bytes c.self.invariant) low high
    (c.number_below.ensures.value ∙ ap (λ bytes. number_below bytes (0x7100_0000 - c.args.address) (size_of c.args.size)) c.deref.ensures.value)
