use Rattle.cxa_runtime.proofs.Changes.{thrown_owed, building_not_caught, thrown_live}
use Rattle.cxa_runtime.proofs.globals.Globals.throw.Goals as goal

pub invariant_of-self : goal.invariant_of-self
invariant_of-self c =
    let live = rw (← c.self.view_is) at c.requires.live in
    rw c.set_header.ensures (rw c.raised.ensures (thrown_owed c.self.inside.stack c.args.object.now.slot c.args.object.now.header c.args.header c.self.invariant live c.requires.building c.requires.thrown))

pub returns-clause-not_caught : goal.returns-clause-not_caught
returns-clause-not_caught c =
    let live = rw (← c.self.view_is) at c.requires.live in
    rw c.set_header.ensures (rw c.raised.ensures (building_not_caught c.self.inside.stack c.args.object.now.slot c.args.object.now.header c.self.invariant live c.requires.building))

pub returns-clause-live : goal.returns-clause-live
returns-clause-live c =
    let live = rw (← c.self.view_is) at c.requires.live in
    rw c.set_header.ensures (rw c.raised.ensures (thrown_live c.self.inside.stack c.args.object.now.slot c.args.object.now.header c.args.header live))
