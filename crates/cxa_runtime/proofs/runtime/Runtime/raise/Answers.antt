use Rattle.cxa_runtime.proofs.runtime.Runtime.raise.Goals as goal

pub returns-clause-raised : goal.returns-clause-raised
returns-clause-raised c = rw (← c.self.view_is) c.raise.ensures.raised
