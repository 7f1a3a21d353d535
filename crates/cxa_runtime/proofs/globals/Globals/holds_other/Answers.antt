use Rattle.std.proofs.Common.{◌∙◌, ap, sym, nat_lt}
use Rattle.cxa_runtime.proofs.Changes.{holds_other_at, holds_other_but, top_same, top_other}
use Rattle.cxa_runtime.proofs.globals.Globals.holds_other.Goals as goal

pub returns-then-eq : goal.returns-then-eq
returns-then-eq c =
    let top = sym c.top.ensures.value ∙ top_same c.top.result c.args.slot (c.if-eq.ensures {u = tt}) in
    rw (← c.self.view_is) (ap (nat_lt 1) c.depth.ensures ∙ sym (holds_other_at c.self.inside.stack c.args.slot c.top.ensures.sound top))

pub returns-else-eq : goal.returns-else-eq
returns-else-eq c =
    let other = top_other c.self.inside.stack.caught c.args.slot c.top.result c.top.ensures.value (c.if-eq.ensures {u = tt}) in
    rw (← c.self.view_is) (ap (nat_lt 0) c.depth-else-eq.ensures ∙ sym (holds_other_but c.self.inside.stack.caught c.args.slot other))
