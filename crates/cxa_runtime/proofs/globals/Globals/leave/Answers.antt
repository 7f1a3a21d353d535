use Rattle.std.proofs.Common.{◌∙◌, ap, Some}
use Rattle.cxa_runtime.proofs.Changes.{native_let_go, foreign_let_go, last_out}
use Rattle.cxa_runtime.proofs.globals.Globals.leave.Goals as goal

pub invariant_of-self-in-Native : goal.invariant_of-self-in-Native
invariant_of-self-in-Native c =
    let found = rw (← c.self.view_is) at c.requires in
    rw (c.set_header.ensures, c.building_again.ensures)
    (native_let_go c.self.inside.stack c.end.new.self c.args.object.now c.end.result c.in-Last.field-0 c.top-newest.ensures.sound c.self.invariant found c.end.ensures (c.in_ok-left.was {u = tt} ∙ ap Some c.in-Last.is))

pub free-requires-clause-not_caught : goal.free-requires-clause-not_caught
free-requires-clause-not_caught c =
    let found = rw (← c.self.view_is) at c.requires in
    last_out c.self.inside.stack c.end.new.self c.args.object.now c.end.result c.in-Last.field-0 c.top-newest.ensures.sound found c.end.ensures (c.in_ok-left.was {u = tt} ∙ ap Some c.in-Last.is)

pub invariant_of-self-in-Foreign : goal.invariant_of-self-in-Foreign
invariant_of-self-in-Foreign c =
    let found = rw (← c.self.view_is) at c.requires in
    rw c.free.ensures
    (foreign_let_go c.self.inside.stack c.end.new.self c.args.object.now c.end.result c.in-Last.field-0 c.top-newest.ensures.sound c.self.invariant found c.end.ensures (c.in_ok-left.was {u = tt} ∙ ap Some c.in-Last.is))
