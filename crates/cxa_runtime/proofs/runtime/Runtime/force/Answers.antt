use Rattle.cxa_runtime.proofs.runtime.Runtime.force.Goals as goal

pub returns-clause-raised : goal.returns-clause-raised
returns-clause-raised c = rw (← c.self.view_is) c.force.ensures.raised
