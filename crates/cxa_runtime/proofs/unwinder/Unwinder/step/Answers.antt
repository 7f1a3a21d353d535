use Rattle.cxa_runtime.proofs.Lasting.{stepped_frozen, still_lasting}
use Rattle.cxa_runtime.proofs.unwinder.Unwinder.step.Goals as goal

pub invariant_of-self : goal.invariant_of-self
invariant_of-self c =
    still_lasting c.self.inside.machine c.step.new.self c.self.inside.frames (stepped_frozen c.self.inside.machine c.step.new.self c.step.result c.step.ensures) c.self.invariant

pub returns-clause-frozen : goal.returns-clause-frozen
returns-clause-frozen c = rw (← c.self.view_is) (stepped_frozen c.self.inside.machine c.step.new.self c.step.result c.step.ensures)
