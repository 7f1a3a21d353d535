use Rattle.std.proofs.Common.{rules, ◌≡◌, ◌++◌, ◌∷◌, [], sym, ◌∙◌}
use Rattle.lsda_pack.proofs.LeastOf.{empty}
use Rattle.lsda_pack.proofs.EndNumbers.{no_number, whole_number}
use Rattle.lsda_pack.proofs.chains.chain_number.Goals as goal

pub returns-in-None : goal.returns-in-None
returns-in-None c = λ known have.
    no_number known c.args.chain.now.filters.now c.args.chain.now.ends.items (sym c.as_slice.ensures.value ∙ empty c.as_slice.result.now c.in-None.ensures.cases) have

pub returns-in-Some : goal.returns-in-Some
returns-in-Some c = λ known have.
    let split : c.args.chain.now.ends.items ≡ c.in-Some.field-0-1.now ++ c.in-Some.number.now ∷ [] = search rules in
    whole_number known c.args.chain.now.filters.now c.args.chain.now.ends.items c.in-Some.field-0-1.now c.in-Some.number.now split have
