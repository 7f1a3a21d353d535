use Rattle.std.proofs.Common.{◌≤◌, ◌<◌, ◌+◌, ap, ◌∙◌, sym, ◌∷◌, drop, length, arith}
use Rattle.std.proofs.lemmas.List.{drop_all, drop_more}
use Rattle.cxx_ast.specs.Locals.{after, locals_caught, handler_scope}
use Rattle.cxx_ast.specs.Plain.{statement_then, handler_then}
use Rattle.cxx_ast.specs.Resolve.{resolve_statement, resolve_statements, resolve_handlers, resolve_caught, bind_some}
use Rattle.cxx_ast.specs.declared.name.Bound.TheVariants.{Local}
use Rattle.cxx_ast.specs.View.{statement_of, statements_of, handlers_of}
use Rattle.cxx_check.specs.Joined.{statements_joined, handlers_joined}
use Rattle.cxx_check.proofs.JoinedLaws.{statements_push, statements_all, handlers_push, handlers_all, handler_joined}
use Rattle.cxx_rules.specs.ScopeOf.{closed}
use Rattle.cxx_rules.specs.Walk.{scope_after}
use Rattle.cxx_rules.proofs.ScopeLaws.{handler_left}
use Rattle.cxx_check.proofs.rebuilt_statement.+rebuilt.Goals as goal

pub resolve_all-loop-s-preserved : goal.resolve_all-loop-s-preserved
resolve_all-loop-s-preserved t c =
    let env = c.args.env.now in
    let i = c.loop-s.s-index in
    let done = c.loop-s.rebuilt.items in
    let ss = c.args.ss.now in
    let within : i < length ss = omega arith in
    let next = drop_more ss i c.s-item.result within ∙ ap (λ x. x ∷ drop (i + 1) ss) (sym c.s-item.is) in
    let rest = statements_of (drop (i + 1) ss) in
    let new = c.resolve_statement.new.scope in
    record {
      rebuilt =
          ap (λ xs. statements_joined xs (resolve_statements env new rest)) c.in_ok-put.ensures
          ∙ statements_push done c.in_ok-next.next (resolve_statements env new rest)
          ∙ ap (λ x. statements_joined done (statement_then x (resolve_statements env new rest))) c.in_ok-next.ensures.rebuilt
          ∙ ap (λ sc. statements_joined done (statement_then (resolve_statement env c.loop-s.scope (statement_of c.s-item.result)) (resolve_statements env sc rest))) c.in_ok-next.ensures.scope
          ∙ ap (λ xs. statements_joined done (resolve_statements env c.loop-s.scope (statements_of xs))) (sym next)
          ∙ c.loop-s.invariant.rebuilt;
      scope =
          ap (λ sc. scope_after env sc rest) c.in_ok-next.ensures.scope
          ∙ ap (λ xs. scope_after env c.loop-s.scope (statements_of xs)) (sym next)
          ∙ c.loop-s.invariant.scope;
    }

pub resolve_all-returns-clause-rebuilt : goal.resolve_all-returns-clause-rebuilt
resolve_all-returns-clause-rebuilt t c =
    let over : length c.args.ss.now ≤ c.loop-s.s-index = omega arith in
    sym (statements_all c.loop-s.rebuilt.items)
    ∙ sym (ap (λ ss. statements_joined c.loop-s.rebuilt.items (resolve_statements c.args.env.now c.loop-s.scope (statements_of ss))) (drop_all c.loop-s.s-index c.args.ss.now over))
    ∙ c.loop-s.invariant.rebuilt

pub resolve_handler_block-returns-clause-scope : goal.resolve_handler_block-returns-clause-scope
resolve_handler_block-returns-clause-scope t c =
    c.close.ensures
    ∙ ap closed (c.in_ok-rebuilt.ensures.scope
    ∙ ap (λ s. scope_after c.args.env.now s (statements_of c.args.ss.now)) (c.in_ok-declare_caught.ensures c.args.scope.now c.in_ok-open.ensures))
    ∙ handler_left c.args.env.now c.args.ty.now c.args.name.now c.args.scope.now (statements_of c.args.ss.now)

pub resolve_handlers-loop-h-preserved : goal.resolve_handlers-loop-h-preserved
resolve_handlers-loop-h-preserved t c =
    let env = c.args.env.now in
    let i = c.loop-h.h-index in
    let done = c.loop-h.rebuilt.items in
    let hs = c.args.hs.now in
    let h = c.h-item.result in
    let old = c.loop-h.scope in
    let within : i < length hs = omega arith in
    let next = drop_more hs i h within ∙ ap (λ x. x ∷ drop (i + 1) hs) (sym c.h-item.is) in
    let rest = handlers_of (drop (i + 1) hs) in
    let new = c.resolve_handler.new.scope in
    record {
      rebuilt =
          ap (λ xs. handlers_joined xs (resolve_handlers env new rest)) c.in_ok-put.ensures
          ∙ handlers_push done c.in_ok-next.next (resolve_handlers env new rest)
          ∙ ap (handlers_joined done) (handler_joined c.in_ok-next.next _ _ _ _ (resolve_handlers env new rest) c.in_ok-next.ensures.rebuilt)
          ∙ ap (λ sc. handlers_joined done (handler_then (resolve_caught env old h.ty) (bind_some h.name (Local old.next)) (resolve_statements env (handler_scope env h.ty h.name old) (statements_of h.body.items)) h.place (resolve_handlers env sc rest))) c.in_ok-next.ensures.scope
          ∙ ap (λ xs. handlers_joined done (resolve_handlers env c.loop-h.scope (handlers_of xs))) (sym next)
          ∙ c.loop-h.invariant.rebuilt;
      scope =
          ap (after (locals_caught rest)) c.in_ok-next.ensures.scope
          ∙ ap (λ n. record c.loop-h.scope { next = n }) (omega arith)
          ∙ ap (λ xs. after (locals_caught (handlers_of xs)) c.loop-h.scope) (sym next)
          ∙ c.loop-h.invariant.scope;
    }

pub resolve_handlers-returns-clause-rebuilt : goal.resolve_handlers-returns-clause-rebuilt
resolve_handlers-returns-clause-rebuilt t c =
    let over : length c.args.hs.now ≤ c.loop-h.h-index = omega arith in
    sym (handlers_all c.loop-h.rebuilt.items)
    ∙ sym (ap (λ hs. handlers_joined c.loop-h.rebuilt.items (resolve_handlers c.args.env.now c.loop-h.scope (handlers_of hs))) (drop_all c.loop-h.h-index c.args.hs.now over))
    ∙ c.loop-h.invariant.rebuilt
