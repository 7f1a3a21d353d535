use Rattle.std.proofs.Common.{ap, ◌∙◌, sym, subst}
use Rattle.cxx_rules.specs.SignaturesOf.{Says}
use Rattle.cxx_rules.proofs.AgreeLaws.{none_differs}
use Rattle.cxx_rules.proofs.SignatureLaws.{noted_differs}
use Rattle.cxx_rules.proofs.signatures.Signatures.differs_from.Goals as goal

pub returns-in-None : goal.returns-in-None
returns-in-None c =
    let s = c.args.s.now in let ss = c.args.self.now in
    sym (none_differs ss s (subst (Says s.name.text ss) c.in-None.is (subst (λ t. Says t ss c.noted.result) (c.as_bytes.ensures ∙ ap (λ n. n.text) c.name.ensures) c.noted.ensures)))

pub returns-in-Some : goal.returns-in-Some
returns-in-Some c =
    let s = c.args.s.now in let ss = c.args.self.now in
    noted_differs ss s c.in-Some.noted c.differs_by.result (subst (Says s.name.text ss) c.in-Some.is (subst (λ t. Says t ss c.noted.result) (c.as_bytes.ensures ∙ ap (λ n. n.text) c.name.ensures) c.noted.ensures)) c.differs_by.ensures
