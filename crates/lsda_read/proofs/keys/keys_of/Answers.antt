use Rattle.std.proofs.Common.{rules, ◌≡◌, ◌++◌, [], ◌∷◌, ap, sym, ◌∙◌}
use Rattle.lsda_read.proofs.Sets.{keys_with, keys_last, insert_adds}
use Rattle.lsda_read.proofs.keys.keys_of.Goals as goal

pub numbers-preserved : goal.numbers-preserved
numbers-preserved c =
    let number = c.in-Some.number.now in let others = c.in-Some.others.now in
    let split : c.numbers.rest.now ≡ others ++ number ∷ [] = search rules in
    let put = c.in_ok-insert.ensures.keys ∙ insert_adds c.numbers.set.keys number in
    c.numbers.invariant ∙ ap (keys_with c.numbers.set.keys) split ∙ keys_last c.numbers.set.keys others number ∙ ap (λ ks. keys_with ks others) (sym put)
