use Rattle.std.proofs.Common.{◌≤◌, ap, ◌∙◌, sym, map, length, arith}
use Rattle.std.proofs.lemmas.List.{drop_all}
use Rattle.cxx_ast.specs.Standards.{noexcepts_found}
use Rattle.cxx_ast.specs.View.{declaration_of}
use Rattle.cxx_rules.specs.Folds.{each_behind}
use Rattle.cxx_rules.proofs.ListLaws.{each_found}
use Rattle.cxx_check.proofs.standards.noexcepts_found.Goals as goal

pub returns : goal.returns
returns c =
    let env = c.args.env.now in
    let xs = c.args.decls.now in
    let over : length xs ≤ c.loop-d.d-index = omega arith in
    sym (ap (λ ys. each_behind env (noexcepts_found) c.loop-d.found (map declaration_of ys)) (drop_all c.loop-d.d-index xs over))
    ∙ c.loop-d.invariant ∙ ap (λ f. each_behind env (noexcepts_found) f (map declaration_of xs)) c.nothing-found.ensures
    ∙ each_found env (noexcepts_found) (map declaration_of xs)
