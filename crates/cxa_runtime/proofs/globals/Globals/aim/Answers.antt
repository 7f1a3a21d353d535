use Rattle.cxa_runtime.specs.Flying.{aimed}
use Rattle.cxa_runtime.proofs.Changes.{aimed_owed}
use Rattle.cxa_runtime.proofs.globals.Globals.aim.Goals as goal

pub invariant_of-self : goal.invariant_of-self
invariant_of-self c =
    let live = rw (← c.self.view_is) at c.requires.live in
    rw c.set_header.ensures (aimed_owed c.self.inside.stack c.args.object.now.slot c.args.object.now.header (aimed c.args.cfa c.args.lsda c.args.object.now.header) c.self.invariant live c.requires.thrown)
