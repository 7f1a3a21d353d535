use Rattle.std.proofs.Common.{◌∙◌, ap, subst, cond, Bool}
use Rattle.cxa_runtime.specs.Kept.{Kept, Makes, world_of}
use Rattle.cxa_runtime.specs.Catch.{entered}
use Rattle.cxa_runtime.specs.Terminate.{terminates}
use Rattle.cxa_runtime.proofs.runtime.Runtime.unhandled.Goals as goal

pub returns-clause-made : goal.returns-clause-made
returns-clause-made c = λ input replies.
    let old = c.args.self.now in
    let o = c.args.object.now in
    let w = world_of old input replies in
    let here = subst (λ (k : Kept). Makes (terminates k.places o.header.handlers.0) k c.terminate-2.new.self c.terminate-2.result) c.enter.ensures c.terminate-2.ensures.made in
    here input replies ∙ ap (λ (b : Bool). cond b (terminates old.places o.header.handlers.0 w) (terminates old.places o.header.handlers.0 (entered o w))) (c.if-is_terminating.ensures {u = tt})
