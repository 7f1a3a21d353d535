use Rattle.std.proofs.Common.{◌≡◌, sym, ◌∙◌}
use Rattle.personality.specs.Seen.{thrown_of}
use Rattle.raise_core.specs.declared.found.Found.TheVariants as founds
use Rattle.raise_core.specs.Stack.{frames}
use Rattle.raise_core.specs.Raise.{raise}
use Rattle.raise_core.specs.Reads.{AreTables}
use Rattle.raise_core.proofs.Outcomes.{raises_as}
use Rattle.raise_core.proofs.Entering.{same_outcome, raise_does}
use Rattle.raise_core.proofs.phases.raise.Goals as goal

pub returns-in-EndOfStack-clause-meaning : goal.returns-in-EndOfStack-clause-meaning
returns-in-EndOfStack-clause-meaning c = λ t. sym (raises_as c.args.machine.now t.read.fdes (thrown_of c.args.thrown.now) founds.EndOfStack (c.in-EndOfStack.ensures.frame t) (c.in-EndOfStack.ensures.pad t))

pub returns-in-Broken-clause-meaning : goal.returns-in-Broken-clause-meaning
returns-in-Broken-clause-meaning c = λ t. sym (raises_as c.args.machine.now t.read.fdes (thrown_of c.args.thrown.now) (founds.Broken c.in-Broken.kind) (c.in-Broken.ensures.frame t) (c.in-Broken.ensures.pad t))

pub returns-in-At : goal.returns-in-At
returns-in-At c =
    let after = c.cleanup_phase.new.machine in
    let meaning : (t : AreTables c.args.machine.now c.args.frames.now) → (c.cleanup_phase.result, after) ≡ raise t.read.fdes (thrown_of c.args.thrown.now) c.args.machine.now =
    λ t. c.cleanup_phase.ensures ∙ sym (raises_as c.args.machine.now t.read.fdes (thrown_of c.args.thrown.now) (founds.At c.in-At.stop) (c.in-At.ensures.frame t) (c.in-At.ensures.pad t)) in
    let does = λ (t : AreTables c.args.machine.now c.args.frames.now).
    same_outcome (frames c.args.machine.now t.read.fdes).frames c.args.machine.now (c.cleanup_phase.result, after) (raise t.read.fdes (thrown_of c.args.thrown.now) c.args.machine.now) (meaning t) (raise_does c.args.machine.now t.read.fdes (thrown_of c.args.thrown.now)) in
    record {
      meaning = meaning;
      frame = λ t. (does t).0;
      memory = (does c.requires).1;
    }
