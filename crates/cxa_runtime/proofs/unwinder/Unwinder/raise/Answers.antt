use Rattle.std.proofs.Common.{refl}
use Rattle.raise_core.specs.Reads.{AreTables}
use Rattle.raise_core.specs.Stack.{frames}
use Rattle.cxa_runtime.proofs.Lasting.{stays_unless}
use Rattle.cxa_runtime.proofs.unwinder.Unwinder.raise.Goals as goal

pub returns-clause-raised : goal.returns-clause-raised
returns-clause-raised c = rw (← c.self.view_is) c.raise.ensures.meaning

pub returns-clause-stays : goal.returns-clause-stays
returns-clause-stays c =
    let t : AreTables c.self.inside.machine c.self.inside.frames = c.self.invariant c.self.inside.machine refl in
    rw (← c.self.view_is) (stays_unless (frames c.self.inside.machine t.read.fdes).frames c.raise.result c.self.inside.machine c.raise.new.machine c.self.inside.frames (c.raise.ensures.frame t))
