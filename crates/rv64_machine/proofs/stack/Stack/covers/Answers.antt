use Rattle.std.proofs.Common.{◌≡◌, ◌∙◌, false, refl, arith}
use Rattle.std.specs.Prelude.{nat_lt}
use Rattle.std.proofs.lemmas.Bool.Decides.{nat_tests}
use Rattle.rv64_machine.specs.Reserved.{filled_down}
use Rattle.rv64_machine.proofs.Sides.{from_data, long_down, covers_down, covers_past}
use Rattle.rv64_machine.proofs.stack.Stack.covers.Goals as goal

pub returns-then-address-lt-END : goal.returns-then-address-lt-END
returns-then-address-lt-END c =
    let from = from_data 0x7000_0000 (filled_down 0x100_0000 c.self.inside.bytes.items) c.args.self.now c.self.view_is in
    let long = long_down 0x7000_0000 0x100_0000 c.self.inside.bytes c.args.self.now c.self.view_is c.self.invariant in
    covers_down 0x7000_0000 0x100_0000 0x7100_0000 c.args.self.now c.args.address refl from long c.if-address-lt-END.true

pub returns-else-address-lt-END : goal.returns-else-address-lt-END
returns-else-address-lt-END c =
    let from = from_data 0x7000_0000 (filled_down 0x100_0000 c.self.inside.bytes.items) c.args.self.now c.self.view_is in
    let long = long_down 0x7000_0000 0x100_0000 c.self.inside.bytes c.args.self.now c.self.view_is c.self.invariant in
    let not : nat_lt c.args.address 0x7100_0000 ≡ false = let past = c.if-address-lt-END.false in grind (arith, nat_tests) in
    not ∙ covers_past 0x7000_0000 0x100_0000 0x7100_0000 c.args.self.now c.args.address refl from long c.if-address-lt-END.false
