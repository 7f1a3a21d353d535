use Rattle.std.proofs.Common.{◌∙◌, ap, sym, Option, ℕ}
use Rattle.cxa_runtime.specs.declared.effect.Effect.TheVariants.{Goes}
use Rattle.cxa_runtime.specs.Kept.{Kept, world_of}
use Rattle.cxa_runtime.specs.World.{goes, gives, needs, a0}
use Rattle.cxa_runtime.proofs.runtime.Runtime.unexpected_check.Goals as goal

pub returns-in-None-clause-made : goal.returns-in-None-clause-made
returns-in-None-clause-made c = λ t input replies.
    let w = world_of c.args.self.now input replies in
    ap (λ (o : Option ℕ). needs w o (λ n. goes (gives a0 n w))) (sym c.in-None.is ∙ c.answer.ensures t)

pub returns-in-Some-clause-made : goal.returns-in-Some-clause-made
returns-in-Some-clause-made c = λ t input replies.
    let w = world_of c.args.self.now input replies in
    ap (λ (k : Kept). (Goes, world_of k input replies)) c.give.ensures
    ∙ ap (λ (o : Option ℕ). needs w o (λ n. goes (gives a0 n w))) (sym c.in-Some.is ∙ c.answer.ensures t)
