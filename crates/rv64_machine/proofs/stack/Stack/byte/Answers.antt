use Rattle.std.proofs.Common.{◌-◌, ◌∙◌, ap, refl, arith}
use Rattle.std.specs.Prelude.{slice_index}
use Rattle.rv64_machine.specs.Reserved.{filled_down}
use Rattle.rv64_machine.proofs.Sides.{byte_down, fits, from_data, long_down, within}
use Rattle.rv64_machine.proofs.stack.Stack.byte.Goals as goal

pub overflow_sub-address : goal.overflow_sub-address
overflow_sub-address c =
    let from = from_data 0x7000_0000 (filled_down 0x100_0000 c.self.inside.bytes.items) c.args.self.now c.self.view_is in
    let long = long_down 0x7000_0000 0x100_0000 c.self.inside.bytes c.args.self.now c.self.view_is c.self.invariant in
    let inside = within 0x7000_0000 0x100_0000 c.args.self.now c.args.address 1 from long c.requires in
    let low = inside.0 in
    let high = inside.1 in
    omega arith

pub byte_below-requires : goal.byte_below-requires
byte_below-requires c =
    let from = from_data 0x7000_0000 (filled_down 0x100_0000 c.self.inside.bytes.items) c.args.self.now c.self.view_is in
    let long = long_down 0x7000_0000 0x100_0000 c.self.inside.bytes c.args.self.now c.self.view_is c.self.invariant in
    let inside = within 0x7000_0000 0x100_0000 c.args.self.now c.args.address 1 from long c.requires in
    let low = inside.0 in
    let high = inside.1 in
    omega arith

pub returns-clause-value : goal.returns-clause-value
returns-clause-value c =
    let from = from_data 0x7000_0000 (filled_down 0x100_0000 c.self.inside.bytes.items) c.args.self.now c.self.view_is in
    let long = long_down 0x7000_0000 0x100_0000 c.self.inside.bytes c.args.self.now c.self.view_is c.self.invariant in
    let inside = within 0x7000_0000 0x100_0000 c.args.self.now c.args.address 1 from long c.requires in
    let low = inside.0 in
    let high = inside.1 in
    byte_down 0x7000_0000 0x100_0000 0x7100_0000 c.self.inside.bytes.items c.args.self.now c.args.address c.from.result c.self.view_is refl
    (fits 0x100_0000 c.self.inside.bytes c.self.invariant) low high
    (c.from.ensures ∙ c.byte_below.ensures ∙ ap (λ bytes. slice_index bytes (0x7100_0000 - c.args.address - 1)) c.deref.ensures.value)
