use Rattle.std.proofs.Common.{◌≡◌, sym, ◌∙◌}
use Rattle.raise_core.specs.declared.found.Found.TheVariants as founds
use Rattle.raise_core.specs.Stack.{frames}
use Rattle.raise_core.specs.Raise.{forced_unwind}
use Rattle.raise_core.specs.Reads.{AreTables}
use Rattle.raise_core.proofs.Outcomes.{forces_as}
use Rattle.raise_core.proofs.Entering.{same_outcome, forced_does}
use Rattle.raise_core.proofs.phases.forced.Goals as goal

pub returns-in-EndOfStack-clause-meaning : goal.returns-in-EndOfStack-clause-meaning
returns-in-EndOfStack-clause-meaning c = λ t. sym (forces_as c.args.machine.now t.read.fdes founds.EndOfStack (c.in-EndOfStack.ensures.frame t))

pub returns-in-Broken-clause-meaning : goal.returns-in-Broken-clause-meaning
returns-in-Broken-clause-meaning c = λ t. sym (forces_as c.args.machine.now t.read.fdes (founds.Broken c.in-Broken.kind) (c.in-Broken.ensures.frame t))

pub returns-in-At : goal.returns-in-At
returns-in-At c =
    let after = c.stop_at.new.machine in
    let meaning : (t : AreTables c.args.machine.now c.args.frames.now) → (c.stop_at.result, after) ≡ forced_unwind t.read.fdes c.args.machine.now =
    λ t. c.stop_at.ensures ∙ sym (forces_as c.args.machine.now t.read.fdes (founds.At c.in-At.stop) (c.in-At.ensures.frame t)) in
    let does = λ (t : AreTables c.args.machine.now c.args.frames.now).
    same_outcome (frames c.args.machine.now t.read.fdes).frames c.args.machine.now (c.stop_at.result, after) (forced_unwind t.read.fdes c.args.machine.now) (meaning t) (forced_does c.args.machine.now t.read.fdes) in
    record {
      meaning = meaning;
      frame = λ t. (does t).0;
      memory = (does c.requires).1;
    }
