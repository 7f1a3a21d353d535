use Rattle.std.proofs.Common.{◌≤◌, ap, ◌∙◌, sym, length, false, arith}
use Rattle.std.proofs.lemmas.List.{drop_all}
use Rattle.cxx_ast.specs.View.{statements_of, handlers_of}
use Rattle.cxx_rules.specs.ScopeOf.{closed}
use Rattle.cxx_rules.specs.Walk.{scope_after, statements_behind, handlers_behind}
use Rattle.cxx_rules.proofs.ScopeLaws.{handler_left}
use Rattle.cxx_rules.proofs.WalkLaws.{statements_behind_is, handlers_behind_is}
use Rattle.cxx_rules.proofs.statement.+statements.Goals as goal

pub handler_block-returns-clause-scope : goal.handler_block-returns-clause-scope
handler_block-returns-clause-scope t c =
    c.close.ensures
    ∙ ap closed (c.in_ok-found.ensures.scope
    ∙ ap (λ s. scope_after c.args.env.now s (statements_of c.args.ss.now)) (c.in_ok-declare_caught.ensures c.args.scope.now c.in_ok-open.ensures))
    ∙ handler_left c.args.env.now c.args.ty.now c.args.name.now c.args.scope.now (statements_of c.args.ss.now)

pub handlers-returns-clause-found : goal.handlers-returns-clause-found
handlers-returns-clause-found t c =
    let over : length c.args.hs.now ≤ c.loop-h.h-index = omega arith in
    let done = drop_all c.loop-h.h-index c.args.hs.now over in
    sym (ap (λ hs. handlers_behind c.args.env.now c.loop-h.found c.loop-h.scope c.loop-h.behind_all (handlers_of hs)) done)
    ∙ c.loop-h.invariant.found
    ∙ ap (λ f. handlers_behind c.args.env.now f c.args.scope.now false (handlers_of c.args.hs.now)) c.nothing-found.ensures
    ∙ handlers_behind_is c.args.env.now c.args.scope.now (handlers_of c.args.hs.now)

pub statements-returns-clause-found : goal.statements-returns-clause-found
statements-returns-clause-found t c =
    let over : length c.args.ss.now ≤ c.loop-s.s-index = omega arith in
    let done = drop_all c.loop-s.s-index c.args.ss.now over in
    sym (ap (λ ss. statements_behind c.args.env.now c.loop-s.found c.loop-s.scope (statements_of ss)) done)
    ∙ c.loop-s.invariant.found
    ∙ ap (λ f. statements_behind c.args.env.now f c.args.scope.now (statements_of c.args.ss.now)) c.nothing-found.ensures
    ∙ statements_behind_is c.args.env.now c.args.scope.now (statements_of c.args.ss.now)
