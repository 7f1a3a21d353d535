use Rattle.std.proofs.Common.{◌≤◌, ap, ◌∙◌, sym, length, arith}
use Rattle.std.proofs.lemmas.List.{drop_all}
use Rattle.cxx_ast.specs.Standards.{keyword_found}
use Rattle.cxx_check.specs.OwnParts.{names_now}
use Rattle.cxx_rules.specs.Folds.{each_behind}
use Rattle.cxx_rules.proofs.ListLaws.{each_found}
use Rattle.cxx_check.proofs.standards.keywords_found.Goals as goal

pub returns : goal.returns
returns c =
    let env = c.args.env.now in
    let xs = c.args.names.now in
    let over : length xs ≤ c.loop-name.name-index = omega arith in
    sym (ap (λ ys. each_behind env (keyword_found) c.loop-name.found (names_now ys)) (drop_all c.loop-name.name-index xs over))
    ∙ c.loop-name.invariant ∙ ap (λ f. each_behind env (keyword_found) f (names_now xs)) c.nothing-found.ensures
    ∙ each_found env (keyword_found) (names_now xs)
