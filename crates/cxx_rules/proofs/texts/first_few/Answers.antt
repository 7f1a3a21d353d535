use Rattle.std.proofs.Common.{ap, ◌∙◌, position, take, bytes_eq}
use Rattle.cxx_rules.proofs.TextLaws.{found_few}
use Rattle.cxx_rules.proofs.texts.first_few.Goals as goal

pub returns : goal.returns
returns c =
    let q = c.args.text.now in
    c.first_in.ensures ∙ ap (λ n. position (λ v. bytes_eq v.items q) (take n c.args.items.now)) c.min.ensures ∙ found_few q c.args.items.now
