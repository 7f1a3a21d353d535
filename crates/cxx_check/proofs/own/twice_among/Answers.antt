use Rattle.std.proofs.Common.{◌≤◌, ap, ◌∙◌, sym, length, arith}
use Rattle.std.proofs.lemmas.List.{drop_all}
use Rattle.cxx_check.specs.OwnParts.{names_now, twice_in}
use Rattle.cxx_rules.specs.Folds.{each_behind}
use Rattle.cxx_check.proofs.OwnLaws.{twice_behind_is}
use Rattle.cxx_check.proofs.own.twice_among.Goals as goal

pub returns : goal.returns
returns c =
    let env = c.args.env.now in
    let all = names_now c.args.names.now in
    let over : length c.args.names.now ≤ c.loop-name.name-index = omega arith in
    sym (ap (λ ns. each_behind env (twice_in all) c.loop-name.found (names_now ns)) (drop_all c.loop-name.name-index c.args.names.now over))
    ∙ c.loop-name.invariant ∙ ap (λ f. each_behind env (twice_in all) f all) c.nothing-found.ensures ∙ twice_behind_is env all all
