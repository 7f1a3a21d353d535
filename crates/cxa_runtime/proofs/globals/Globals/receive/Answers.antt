use Rattle.cxa_runtime.proofs.Changes.{receive_live, wished_by, receive_owed, receive_ready}
use Rattle.cxa_runtime.proofs.globals.Globals.receive.Goals as goal

pub invariant_of-self : goal.invariant_of-self
invariant_of-self c = receive_owed c.self.inside.stack c.allocate.new.self c.args.header c.allocate.result c.top-newest.ensures.sound c.self.invariant c.requires c.allocate.ensures.gives

pub returns-clause-ready : goal.returns-clause-ready
returns-clause-ready c = receive_ready c.self.inside.stack c.allocate.new.self c.args.header c.allocate.result c.top-newest.ensures.sound c.self.invariant c.requires c.allocate.ensures.gives

pub returns-clause-wished : goal.returns-clause-wished
returns-clause-wished c = rw (← c.self.view_is) (wished_by c.self.inside.stack c.allocate.new.self c.args.header c.allocate.result c.top-newest.ensures.sound c.allocate.ensures.full.0 c.allocate.ensures.gives)

pub returns-clause-live : goal.returns-clause-live
returns-clause-live c = receive_live c.self.inside.stack c.allocate.new.self c.args.header c.allocate.result c.top-newest.ensures.sound c.allocate.ensures.gives
