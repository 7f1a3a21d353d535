use Rattle.std.proofs.Common.{◌≤◌, ◌<◌, ◌+◌, ap, ◌∙◌, sym, ◌∷◌, drop, length, arith}
use Rattle.std.proofs.lemmas.List.{drop_all, drop_more}
use Rattle.cxx_ast.specs.Plain.{expression_then}
use Rattle.cxx_ast.specs.Resolve.{resolve_expressions}
use Rattle.cxx_ast.specs.View.{expressions_of}
use Rattle.cxx_check.specs.Joined.{expressions_joined}
use Rattle.cxx_check.proofs.JoinedLaws.{joined_push, joined_all}
use Rattle.cxx_check.proofs.resolved.+resolved.Goals as goal

pub resolve_expressions-loop-e-preserved : goal.resolve_expressions-loop-e-preserved
resolve_expressions-loop-e-preserved t c =
    let i = c.loop-e.e-index in
    let given = c.loop-e.given.items in
    let within : i < length c.args.es.now = omega arith in
    let next = drop_more c.args.es.now i c.e-item.result within ∙ ap (λ x. x ∷ drop (i + 1) c.args.es.now) (sym c.e-item.is) in
    let others = resolve_expressions c.args.env.now c.args.scope.now (expressions_of (drop (i + 1) c.args.es.now)) in
    ap (λ xs. expressions_joined xs others) c.in_ok-put.ensures
    ∙ joined_push given c.in_ok-bound.bound others
    ∙ ap (λ x. expressions_joined given (expression_then x others)) c.in_ok-bound.ensures
    ∙ ap (λ es. expressions_joined given (resolve_expressions c.args.env.now c.args.scope.now (expressions_of es))) (sym next)
    ∙ c.loop-e.invariant

pub resolve_expressions-returns : goal.resolve_expressions-returns
resolve_expressions-returns t c =
    let over : length c.args.es.now ≤ c.loop-e.e-index = omega arith in
    sym (joined_all c.loop-e.given.items)
    ∙ sym (ap (λ es. expressions_joined c.loop-e.given.items (resolve_expressions c.args.env.now c.args.scope.now (expressions_of es))) (drop_all c.loop-e.e-index c.args.es.now over))
    ∙ c.loop-e.invariant
