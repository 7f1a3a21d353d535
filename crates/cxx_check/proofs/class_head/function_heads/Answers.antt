use Rattle.std.proofs.Common.{◌≤◌, ap, ◌∙◌, sym, map, length, arith}
use Rattle.std.proofs.lemmas.List.{drop_all}
use Rattle.cxx_ast.specs.View.{function_of}
use Rattle.cxx_check.specs.ClassParts.{method_head_in}
use Rattle.cxx_rules.specs.Folds.{each_behind}
use Rattle.cxx_rules.proofs.ListLaws.{each_found}
use Rattle.cxx_check.proofs.class_head.function_heads.Goals as goal

pub returns-clause-found : goal.returns-clause-found
returns-clause-found c =
    let env = c.args.env.now in
    let g = method_head_in env c.args.class in
    let over : length c.args.funcs.now ≤ c.loop-f.f-index = omega arith in
    sym (ap (λ fs. each_behind env g c.loop-f.found (map function_of fs)) (drop_all c.loop-f.f-index c.args.funcs.now over))
    ∙ c.loop-f.invariant.found ∙ ap (λ f. each_behind env g f (map function_of c.args.funcs.now)) c.nothing-found.ensures
    ∙ each_found env g (map function_of c.args.funcs.now)
