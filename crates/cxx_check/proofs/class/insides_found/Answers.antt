use Rattle.std.proofs.Common.{◌≤◌, ◌<◌, ◌+◌, ap, ◌∙◌, sym, ◌∷◌, Some, drop, map, length, arith}
use Rattle.std.proofs.lemmas.List.{drop_all, drop_more}
use Rattle.cxx_ast.specs.Declare.{declare_behind, head_environment, head_scope}
use Rattle.cxx_ast.specs.Plain.{class_declaration}
use Rattle.cxx_ast.specs.View.{function_of}
use Rattle.cxx_check.specs.ClassParts.{method_inside}
use Rattle.cxx_check.specs.FunctionParts.{inside_found}
use Rattle.cxx_rules.specs.Folds.{each_behind}
use Rattle.cxx_rules.specs.Summary.{both, seen}
use Rattle.cxx_rules.proofs.ListLaws.{each_found}
use Rattle.cxx_check.proofs.class.insides_found.Goals as goal

pub loop-f-preserved : goal.loop-f-preserved
loop-f-preserved c old cl h e =
    let env = c.args.env.now in
    let i = c.loop-f.f-index in
    let fs = c.args.funcs.now in
    let f = function_of c.f-item.result in
    let g = method_inside old cl in
    let known = declare_behind old (class_declaration cl) in
    let head = head_environment old cl in
    let place = head_scope old f.name in
    let within : i < length fs = omega arith in
    let next = drop_more fs i c.f-item.result within ∙ ap (λ x. x ∷ drop (i + 1) fs) (sym c.f-item.is) in
    let part =
    c.in_ok-part.ensures head place ∙ ap (λ x. seen env (inside_found head place x (Some c.args.number) f)) e
    ∙ ap (λ n. seen env (inside_found head place known (Some n) f)) (sym h) in
    ap (λ x. each_behind env g x (map function_of (drop (i + 1) fs))) (c.and-found.ensures ∙ ap (both c.loop-f.found) part)
    ∙ ap (λ ds. each_behind env g c.loop-f.found (map function_of ds)) (sym next)
    ∙ c.loop-f.invariant old cl h e

pub returns : goal.returns
returns c old cl h e =
    let env = c.args.env.now in
    let g = method_inside old cl in
    let over : length c.args.funcs.now ≤ c.loop-f.f-index = omega arith in
    sym (ap (λ fs. each_behind env g c.loop-f.found (map function_of fs)) (drop_all c.loop-f.f-index c.args.funcs.now over))
    ∙ c.loop-f.invariant old cl h e ∙ ap (λ f. each_behind env g f (map function_of c.args.funcs.now)) c.nothing-found.ensures
    ∙ each_found env g (map function_of c.args.funcs.now)
