use Rattle.std.proofs.Common.{◌∙◌, subst}
use Rattle.raise_core.specs.declared.raised.Raised.TheVariants.{NoHandler, Terminate}
use Rattle.raise_core.specs.Raise.{raise}
use Rattle.table_forms.specs.Verdict.{foreign}
use Rattle.cxa_runtime.specs.Kept.{Makes, world_of}
use Rattle.cxa_runtime.specs.World.{with_exceptions}
use Rattle.cxa_runtime.specs.Flying.{flown}
use Rattle.cxa_runtime.specs.Terminate.{terminates_now}
use Rattle.cxa_runtime.specs.Raising.{raised_as}
use Rattle.cxa_runtime.proofs.Raised.{by_answer, foreign_passes}
use Rattle.cxa_runtime.proofs.runtime.Runtime.raise_foreign.Goals as goal

pub returns-in-NoHandler-clause-made : goal.returns-in-NoHandler-clause-made
returns-in-NoHandler-clause-made c = λ t input replies.
    let old = c.args.self.now in
    let w = world_of old input replies in
    let same = subst (λ k. Makes (terminates_now k.places) k c.terminate_now.new.self c.terminate_now.result) (c.in-NoHandler.ensures {u = tt}).unwinds c.terminate_now.ensures.made in
    same input replies ∙ foreign_passes old.places c.args.flight c.args.object.now w c.requires.guest
    ∙ by_answer (raised_as old.places old.exceptions c.args.object.now (with_exceptions (flown c.args.flight old.exceptions) w)) (raise t.read.fdes foreign old.hart) c.raise.result NoHandler c.raise.new.self.hart (c.raise.ensures.raised t) c.in-NoHandler.is

pub returns-in-Terminate-clause-made : goal.returns-in-Terminate-clause-made
returns-in-Terminate-clause-made c = λ t input replies.
    let old = c.args.self.now in
    let w = world_of old input replies in
    let same = subst (λ k. Makes (terminates_now k.places) k c.terminate_now-in-Terminate.new.self c.terminate_now-in-Terminate.result) (c.in-Terminate.ensures {u = tt}).unwinds c.terminate_now-in-Terminate.ensures.made in
    same input replies ∙ foreign_passes old.places c.args.flight c.args.object.now w c.requires.guest
    ∙ by_answer (raised_as old.places old.exceptions c.args.object.now (with_exceptions (flown c.args.flight old.exceptions) w)) (raise t.read.fdes foreign old.hart) c.raise.result Terminate c.raise.new.self.hart (c.raise.ensures.raised t) c.in-Terminate.is
