use Rattle.std.proofs.Common.{ap, ◌∙◌, sym, position, take, is_some, bytes_eq}
use Rattle.cxx_rules.specs.Positions.{texts_of}
use Rattle.cxx_rules.proofs.TextLaws.{position_take}
use Rattle.cxx_rules.proofs.texts.Texts.position.Goals as goal

pub returns-in-Some : goal.returns-in-Some
returns-in-Some c =
    let q = c.args.text.now in
    let few = c.first_few.ensures ∙ ap (λ vs. position (λ d. bytes_eq d q) (take 8 (texts_of vs))) c.as_slice.ensures.value in
    let among = few ∙ ap (λ ts. position (λ d. bytes_eq d q) (take 8 ts)) c.self.view_is in
    sym c.in-Some.is ∙ among ∙ position_take (λ d. bytes_eq d q) 8 c.args.self.now (ap is_some (sym among ∙ c.in-Some.is))

pub returns-in-None : goal.returns-in-None
returns-in-None c =
    let q = c.args.text.now in
    let few = c.first_few.ensures ∙ ap (λ vs. position (λ d. bytes_eq d q) (take 8 (texts_of vs))) c.as_slice.ensures.value in
    let among = few ∙ ap (λ ts. position (λ d. bytes_eq d q) (take 8 ts)) c.self.view_is in
    c.later.ensures (sym among ∙ c.in-None.is)
