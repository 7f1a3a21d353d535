use Rattle.std.proofs.Common.{◌≤◌, ap, ◌∙◌, sym, map, length, arith}
use Rattle.std.proofs.lemmas.List.{drop_all}
use Rattle.cxx_ast.specs.Standards.{noexcept_found}
use Rattle.cxx_ast.specs.View.{function_of}
use Rattle.cxx_rules.specs.Folds.{each_behind}
use Rattle.cxx_rules.proofs.ListLaws.{each_found}
use Rattle.cxx_check.proofs.standards.methods_found.Goals as goal

pub returns : goal.returns
returns c =
    let env = c.args.env.now in
    let xs = c.args.funcs.now in
    let over : length xs ≤ c.loop-f.f-index = omega arith in
    sym (ap (λ ys. each_behind env (λ f. noexcept_found f.specification) c.loop-f.found (map function_of ys)) (drop_all c.loop-f.f-index xs over))
    ∙ c.loop-f.invariant ∙ ap (λ f. each_behind env (λ f. noexcept_found f.specification) f (map function_of xs)) c.nothing-found.ensures
    ∙ each_found env (λ f. noexcept_found f.specification) (map function_of xs)
