use Rattle.cxa_runtime.proofs.Changes.{freed_owed, building_out}
use Rattle.cxa_runtime.proofs.globals.Globals.free.Goals as goal

pub free-requires-clause-not_caught : goal.free-requires-clause-not_caught
free-requires-clause-not_caught c =
    let live = rw (← c.self.view_is) at c.requires.live in
    building_out c.self.inside.stack c.args.object.now.slot c.args.object.now.header c.self.invariant live c.requires.building

pub invariant_of-self : goal.invariant_of-self
invariant_of-self c =
    let live = rw (← c.self.view_is) at c.requires.live in
    rw c.free.ensures (freed_owed c.self.inside.stack c.args.object.now.slot c.args.object.now.header c.self.invariant live c.requires.building)
