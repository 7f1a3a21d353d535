use Rattle.std.proofs.Common.{ℕ, ◌∙◌, ◌+◌, ◌==◌, List, Option, Some, take, sym, ap, rules}
use Rattle.std.proofs.lemmas.Iterator.{YieldsList-from_slice}
use Rattle.std.proofs.lemmas.Iterator.Search.{position_from_yields_List}
use Rattle.std.proofs.lemmas.List.{take_rest}
use Rattle.command_line.specs.Parted.{parted_at}
use Rattle.command_line.proofs.parted.parted.Goals as goal

pub returns-in-Some : goal.returns-in-Some
returns-in-Some c =
    let text = c.args.text.now in
    let i = c.in-Some.i in
    let first = position_from_yields_List (λ (b : ℕ). b == c.args.byte) _ _ c.position.result c.position.ensures.ran (YieldsList-from_slice text c.iter.ensures.rest) (λ x b q k. search rules) in
    ap (λ (rest : List ℕ). (take i text, Some rest)) (take_rest text (i + 1)) ∙ ap (λ (o : Option ℕ). parted_at o text) (sym c.in-Some.is ∙ first)

pub returns-in-None : goal.returns-in-None
returns-in-None c =
    let text = c.args.text.now in
    let first = position_from_yields_List (λ (b : ℕ). b == c.args.byte) _ _ c.position.result c.position.ensures.ran (YieldsList-from_slice text c.iter.ensures.rest) (λ x b q k. search rules) in
    ap (λ (o : Option ℕ). parted_at o text) (sym c.in-None.is ∙ first)
