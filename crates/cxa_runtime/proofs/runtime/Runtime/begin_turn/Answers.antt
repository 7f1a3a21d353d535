use Rattle.std.proofs.Common.{arith, ◌<◌, ◌^◌}
use Rattle.cxa_runtime.proofs.Handlers.{within_more}
use Rattle.cxa_runtime.proofs.runtime.Runtime.begin_turn.Goals as goal

pub invariant_of-self : goal.invariant_of-self
invariant_of-self c =
    let numbers = c.self.invariant.numbers in
    let counted = c.self.invariant.counted in
    let old : c.self.inside.turns < 2 ^ 40 = rw (← c.self.view_is) at c.requires in
    record {
      numbers = omega arith;
      handlers = within_more c.self.inside.turns c.self.inside.globals.caught c.self.invariant.handlers;
      counted = omega arith;
      few = omega arith;
    }
