use Rattle.std.proofs.Common.{ap, ◌∙◌, position, take, bytes_eq}
use Rattle.cxx_rules.proofs.texts.Texts.later.Goals as goal

pub returns : goal.returns
returns c absent =
    let q = c.args.text.now in
    let among = ap (λ texts. position (λ d. bytes_eq d q) (take 8 texts)) c.self.view_is ∙ absent in
    c.copied.ensures ∙ c.get.ensures.value ∙ c.self.invariant q among ∙ ap (λ texts. position (λ d. bytes_eq d q) texts) c.self.view_is
