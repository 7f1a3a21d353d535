use Rattle.std.proofs.Common.{◌≡◌, ap, sym, ◌∙◌}
use Rattle.personality.specs.Seen.{thrown_of}
use Rattle.raise_core.specs.declared.found.Found.TheVariants as founds
use Rattle.raise_core.specs.Stack.{frames}
use Rattle.raise_core.specs.Raise.{at_cfa, goes_on, resume}
use Rattle.raise_core.specs.Reads.{AreTables}
use Rattle.raise_core.proofs.Outcomes.{resumes_as}
use Rattle.raise_core.proofs.Entering.{same_outcome, resume_does}
use Rattle.raise_core.proofs.phases.resume.Goals as goal

pub returns-in-EndOfStack-clause-meaning : goal.returns-in-EndOfStack-clause-meaning
returns-in-EndOfStack-clause-meaning c = λ t. sym (resumes_as c.args.machine.now t.read.fdes (thrown_of c.args.thrown.now) c.args.target founds.EndOfStack (c.in-EndOfStack.ensures.frame t))

pub returns-in-Broken-clause-meaning : goal.returns-in-Broken-clause-meaning
returns-in-Broken-clause-meaning c = λ t. sym (resumes_as c.args.machine.now t.read.fdes (thrown_of c.args.thrown.now) c.args.target (founds.Broken c.in-Broken.field-0) (c.in-Broken.ensures.frame t))

pub returns-in-At : goal.returns-in-At
returns-in-At c =
    let after = c.go_on.new.machine in
    let meaning : (t : AreTables c.args.machine.now c.args.frames.now) → (c.go_on.result, after) ≡ resume t.read.fdes (thrown_of c.args.thrown.now) c.args.target c.args.machine.now =
    λ t. c.go_on.ensures ∙ ap (λ b. goes_on c.args.machine.now c.in-At.stop.frame b (at_cfa c.args.target) c.in-At.stop.verdict) c.is_with_cfa-here.ensures ∙
    sym (resumes_as c.args.machine.now t.read.fdes (thrown_of c.args.thrown.now) c.args.target (founds.At c.in-At.stop) (c.in-At.ensures.frame t)) in
    let does = λ (t : AreTables c.args.machine.now c.args.frames.now).
    same_outcome (frames c.args.machine.now t.read.fdes).frames c.args.machine.now (c.go_on.result, after) (resume t.read.fdes (thrown_of c.args.thrown.now) c.args.target c.args.machine.now) (meaning t) (resume_does c.args.machine.now t.read.fdes (thrown_of c.args.thrown.now) c.args.target) in
    record {
      meaning = meaning;
      frame = λ t. (does t).0;
      memory = (does c.requires).1;
    }
