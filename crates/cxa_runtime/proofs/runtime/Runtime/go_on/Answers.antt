use Rattle.cxa_runtime.proofs.runtime.Runtime.go_on.Goals as goal

pub returns-clause-raised : goal.returns-clause-raised
returns-clause-raised c = rw (← c.self.view_is) c.resume.ensures.raised
