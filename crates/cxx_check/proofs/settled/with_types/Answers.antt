use Rattle.std.proofs.Common.{◌≤◌, ◌<◌, ◌+◌, ◌≡◌, false, ap, ◌∙◌, sym, ◌∷◌, drop, length, arith, rules}
use Rattle.std.proofs.lemmas.List.{drop_more}
use Rattle.cxx_ast.specs.Limits.{most_taken}
use Rattle.cxx_ast.specs.Settled.{lists, with_types}
use Rattle.cxx_check.proofs.SettledLaws.{too_many}
use Rattle.cxx_check.proofs.settled.with_types.Goals as goal

pub returns-then-len-ge-MOST_TAKEN : goal.returns-then-len-ge-MOST_TAKEN
returns-then-len-ge-MOST_TAKEN c rest =
    let i = c.loop-ty.ty-index in
    let others = c.args.others.now in
    let types = c.loop-ty.types.items in
    let t = c.ty-item.result in
    let within : i < length others = omega arith in
    let next = drop_more others i t within ∙ ap (λ x. x ∷ drop (i + 1) others) (sym c.ty-item.is) in
    let new : lists types t ≡ false = search rules in
    let many : most_taken ≤ length types = search rules in
    too_many types t (drop (i + 1) others) (with_types c.args.types.items others) rest new many (ap (with_types types) (sym next) ∙ c.loop-ty.invariant)
