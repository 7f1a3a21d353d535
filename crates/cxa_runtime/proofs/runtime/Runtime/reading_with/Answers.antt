use Rattle.cxa_runtime.proofs.runtime.Runtime.reading_with.Goals as goal

pub returns-clause-reading : goal.returns-clause-reading
returns-clause-reading c = rw (← c.self.view_is) c.reading_with.ensures.reading
