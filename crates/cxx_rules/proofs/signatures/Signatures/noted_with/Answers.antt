use Rattle.std.proofs.Common.{rules, ◌≡◌, ◌||◌, refl, ap, ◌∙◌, sym, length, subst}
use Rattle.cxx_rules.specs.SignaturesOf.{Says}
use Rattle.cxx_rules.proofs.SignatureLaws.{noted_first, noted_again}
use Rattle.cxx_rules.proofs.signatures.Signatures.noted_with.Goals as goal

pub returns-in-None : goal.returns-in-None
returns-in-None c =
    let s = c.args.s.now in let ss = c.args.self.now in
    let counted : length c.self.inside.items.items ≡ c.len.result = search (rules, c.len.ensures) in
    noted_first ss s _ (subst (Says s.name.text ss) c.in-None.is (subst (λ t. Says t ss c.noted.result) (c.as_bytes.ensures ∙ ap (λ n. n.text) c.name.ensures) c.noted.ensures))
    (sym counted ∙ ap length c.self.view_is) refl c.is_defined.ensures

pub returns-in-Some : goal.returns-in-Some
returns-in-Some c =
    let s = c.args.s.now in let ss = c.args.self.now in
    let says = subst (Says s.name.text ss) c.in-Some.is (subst (λ t. Says t ss c.noted.result) (c.as_bytes.ensures ∙ ap (λ n. n.text) c.name.ensures) c.noted.ensures) in
    noted_again ss s c.in-Some.noted _ says refl c.differs_by.ensures (c.is_either.ensures ∙ ap (λ b. c.in-Some.noted.is_defined || b) c.is_defined-in-Some.ensures)
