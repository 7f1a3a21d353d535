use Rattle.std.proofs.Common.{◌≤◌, ap, ◌∙◌, sym, length, arith}
use Rattle.std.proofs.lemmas.List.{drop_all}
use Rattle.cxx_check.specs.Once.{once_in}
use Rattle.cxx_check.specs.OwnParts.{names_now}
use Rattle.cxx_rules.specs.Folds.{each_behind}
use Rattle.cxx_check.proofs.OwnLaws.{once_behind_is}
use Rattle.cxx_check.proofs.once.once_found.Goals as goal

pub returns : goal.returns
returns c =
    let env = c.args.env.now in
    let special = c.args.special.now in
    let all = names_now c.args.all.now in
    let over : length c.args.all.now ≤ c.loop-name.name-index = omega arith in
    sym (ap (λ ns. each_behind env (once_in special all) c.loop-name.found (names_now ns)) (drop_all c.loop-name.name-index c.args.all.now over))
    ∙ c.loop-name.invariant ∙ ap (λ f. each_behind env (once_in special all) f all) c.nothing-found.ensures ∙ once_behind_is env special all all
