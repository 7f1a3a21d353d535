use Rattle.std.proofs.Common.{◌∙◌, sym, subst}
use Rattle.cxx_rules.specs.SignaturesOf.{Says}
use Rattle.cxx_rules.proofs.signatures.Signatures.noted.Goals as goal

pub returns : goal.returns
returns c =
    let text = c.args.text.now in
    subst (λ ss. Says text ss c.copied.result) c.self.view_is
    (subst (λ o. Says text c.self.inside.items.items o) (sym (c.copied.ensures ∙ c.get.ensures.value)) (c.self.invariant text))
