use Rattle.std.proofs.Common.{◌≡◌, ◌∙◌, ◌<◌, ◌+◌, ◌∷◌, ◌++◌, drop, length, map, false, ap, sym, subst, arith, rules}
use Rattle.std.proofs.lemmas.List.{drop_all, drop_more}
use Rattle.std.specs.Prelude.{IfOk, OnOk}
use Rattle.cxx_ast.specs.Plain.{block, handler_then, local_int, local_ref, statement_then, try, while}
use Rattle.cxx_ast.specs.View.{expression_of, option_of, statement_of, statements_of, handlers_of}
use Rattle.cxx_ast.proofs.Rows.{statement_rows}
use Rattle.region_forms.specs.LowerStatement.{clauses, nothing_more, statement}
use Rattle.region_forms.specs.Numbering.{all_declared_in, declared_in, declared_in_handlers}
use Rattle.region_ir.specs.Given.{lowering_of}
use Rattle.region_ir.specs.Standing.{handler_in, leaves, opens}
use Rattle.region_ir.specs.Variables.{declared_by}
use Rattle.region_ir.specs.View.{region_of}
use Rattle.region_ir.proofs.Clauses.{all_clauses, clauses_then, fewer_handlers, more_clauses, more_variables}
use Rattle.region_ir.proofs.Stated.{counted, fewer_statements, not_opened, stepped}
use Rattle.region_ir.proofs.Weight.{weight_all, weight_handlers}
use Rattle.region_ir.proofs.+statements.Goals as goal

pub catching::clauses-loop-h-preserved : goal.catching::clauses-loop-h-preserved
catching::clauses-loop-h-preserved t c =
    let l = lowering_of c.args.l.now in
    let hs = c.args.hs.now in
    let i = c.loop-h.h-index in
    let h = c.h-item.result in
    let ss = statements_of h.body.items in
    let others = handlers_of (drop (i + 1) hs) in
    let left = handlers_of (drop i hs) in
    let n = c.loop-h.next_variable in
    let m = c.in_ok-one.one.next_variable in
    let at = c.args.at in
    let x = c.in_ok-one.one.clause in
    let within : i < length hs = omega (arith, c.loop-h-test.true) in
    let first = drop_more hs i h within ∙ ap (λ ys. ys ∷ drop (i + 1) hs) (sym c.h-item.is) in
    let split : left ≡ handler_then h.ty h.name ss h.place others = ap handlers_of first in
    let body : region_of x.body ≡ handler_in l h.ty ss at.innermost_loop n at.depth = search rules in
    let next : m ≡ n + length (declared_by h.ty) + length (all_declared_in ss) = search rules in
    record {
      clauses =
          more_clauses l h.ty h.name ss h.place others left at.innermost_loop n m at.depth c.loop-h.clauses.items c.put.new.others.items x
          (clauses l (handlers_of hs) at.innermost_loop at.next_variable at.depth) split c.in_ok-put.ensures c.in_ok-one.ensures.ty
          c.in_ok-one.ensures.object body next c.loop-h.invariant.clauses;
      next = more_variables h.ty h.name ss h.place others left n m (at.next_variable + length (declared_in_handlers (handlers_of hs))) split next c.loop-h.invariant.next;
      lighter = fewer_handlers h.ty h.name ss h.place others left (weight_handlers (handlers_of hs)) split c.loop-h.invariant.lighter;
    }

pub catching::clauses-returns-clause-clauses : goal.catching::clauses-returns-clause-clauses
catching::clauses-returns-clause-clauses t c =
    let l = lowering_of c.args.l.now in
    let hs = c.args.hs.now in
    let at = c.args.at in
    let done = c.loop-h.clauses.items in
    sym (all_clauses done)
    ∙ ap (λ xs. clauses_then done (clauses l (handlers_of xs) at.innermost_loop c.loop-h.next_variable at.depth)) (sym (drop_all c.loop-h.h-index hs c.loop-h-test.false))
    ∙ c.loop-h.invariant.clauses

pub statement::with_statements-statements-preserved : goal.statement::with_statements-statements-preserved
statement::with_statements-statements-preserved t c =
    let l = lowering_of c.args.l.now in
    let s = statement_of c.in-Some.s.now in
    let ss = statements_of c.in-Some.others.now in
    let rest = statements_of c.statements.rest.now in
    let at = c.args.at in
    let n = c.statements.next in
    let m = c.in_ok-next.next in
    let old = map region_of c.statements.before.items in
    let now = map region_of c.with_statement.new.before.items in
    let split : rest ≡ statement_then s ss = search rules in
    let closed : opens s ≡ false = not_opened c.in-Some.s.now c.in_default-s.not-LocalObject in
    let stays : leaves s ≡ false = search rules in
    let put : now ≡ old ++ statement l s nothing_more at.innermost_loop n at.depth = search rules in
    let next : m ≡ n + length (declared_in s) = search rules in
    record {
      put = stepped l s ss rest at.innermost_loop n m at.depth _ old now split stays closed put next c.statements.invariant.put;
      next = counted s ss rest n m _ split next c.statements.invariant.next;
      lighter = fewer_statements s ss rest (weight_all (statements_of c.args.ss.now)) split c.statements.invariant.lighter;
    }

pub statement::with_statement-returns-in-Block-clause-put : goal.statement::with_statement-returns-in-Block-clause-put
statement::with_statement-returns-in-Block-clause-put t c =
    let l = lowering_of c.args.l.now in
    let at = c.args.at in
    let old = map region_of c.args.before.now.items in
    let meant : block (statements_of c.as_slice.result.now) ≡ statement_of c.args.s.now = search (rules, statement_rows, c.in-Block.is, c.as_slice.ensures.value) in
    subst (λ s. OnOk c.with_block.result (map region_of c.with_block.new.before.items ≡ old ++ statement l s nothing_more at.innermost_loop at.next_variable at.depth)) meant
    c.with_block.ensures.put

pub statement::with_statement-returns-in-Block-clause-next : goal.statement::with_statement-returns-in-Block-clause-next
statement::with_statement-returns-in-Block-clause-next t c =
    let meant : block (statements_of c.as_slice.result.now) ≡ statement_of c.args.s.now = search (rules, statement_rows, c.in-Block.is, c.as_slice.ensures.value) in
    subst (λ s. IfOk c.with_block.result (λ n. n ≡ c.args.at.next_variable + length (declared_in s))) meant c.with_block.ensures.next

pub statement::with_statement-returns-in-While-clause-put : goal.statement::with_statement-returns-in-While-clause-put
statement::with_statement-returns-in-While-clause-put t c =
    let l = lowering_of c.args.l.now in
    let at = c.args.at in
    let old = map region_of c.args.before.now.items in
    let meant : while (expression_of c.in-While.test) (statement_of c.deref-in-While.result.now) ≡ statement_of c.args.s.now = search (rules, statement_rows, c.in-While.is, c.deref-in-While.ensures) in
    subst (λ s. OnOk c.with_while.result (map region_of c.with_while.new.before.items ≡ old ++ statement l s nothing_more at.innermost_loop at.next_variable at.depth)) meant
    c.with_while.ensures.put

pub statement::with_statement-returns-in-While-clause-next : goal.statement::with_statement-returns-in-While-clause-next
statement::with_statement-returns-in-While-clause-next t c =
    let meant : while (expression_of c.in-While.test) (statement_of c.deref-in-While.result.now) ≡ statement_of c.args.s.now = search (rules, statement_rows, c.in-While.is, c.deref-in-While.ensures) in
    subst (λ s. IfOk c.with_while.result (λ n. n ≡ c.args.at.next_variable + length (declared_in s))) meant c.with_while.ensures.next

pub statement::with_statement-returns-in-Try-clause-put : goal.statement::with_statement-returns-in-Try-clause-put
statement::with_statement-returns-in-Try-clause-put t c =
    let l = lowering_of c.args.l.now in
    let at = c.args.at in
    let old = map region_of c.args.before.now.items in
    let meant : try (statements_of c.as_slice-in-Try.result.now) (handlers_of c.as_slice-in-Try-2.result.now) ≡ statement_of c.args.s.now = search (rules, statement_rows, c.in-Try.is, c.as_slice-in-Try.ensures.value, c.as_slice-in-Try-2.ensures.value) in
    subst (λ s. OnOk c.with_try.result (map region_of c.with_try.new.before.items ≡ old ++ statement l s nothing_more at.innermost_loop at.next_variable at.depth)) meant
    c.with_try.ensures.put

pub statement::with_statement-returns-in-Try-clause-next : goal.statement::with_statement-returns-in-Try-clause-next
statement::with_statement-returns-in-Try-clause-next t c =
    let meant : try (statements_of c.as_slice-in-Try.result.now) (handlers_of c.as_slice-in-Try-2.result.now) ≡ statement_of c.args.s.now = search (rules, statement_rows, c.in-Try.is, c.as_slice-in-Try.ensures.value, c.as_slice-in-Try-2.ensures.value) in
    subst (λ s. IfOk c.with_try.result (λ n. n ≡ c.args.at.next_variable + length (declared_in s))) meant c.with_try.ensures.next

pub statement::with_statement-returns-in-LocalInt-clause-put : goal.statement::with_statement-returns-in-LocalInt-clause-put
statement::with_statement-returns-in-LocalInt-clause-put t c =
    let l = lowering_of c.args.l.now in
    let at = c.args.at in
    let old = map region_of c.args.before.now.items in
    let meant : local_int c.in-LocalInt.name (option_of expression_of c.in-LocalInt.e) ≡ statement_of c.args.s.now = search (rules, statement_rows, c.in-LocalInt.is) in
    subst (λ s. OnOk c.with_int.result (map region_of c.with_int.new.before.items ≡ old ++ statement l s nothing_more at.innermost_loop at.next_variable at.depth)) meant
    c.with_int.ensures.put

pub statement::with_statement-returns-in-LocalInt-clause-next : goal.statement::with_statement-returns-in-LocalInt-clause-next
statement::with_statement-returns-in-LocalInt-clause-next t c =
    let meant : local_int c.in-LocalInt.name (option_of expression_of c.in-LocalInt.e) ≡ statement_of c.args.s.now = search (rules, statement_rows, c.in-LocalInt.is) in
    subst (λ s. IfOk c.with_int.result (λ n. n ≡ c.args.at.next_variable + length (declared_in s))) meant c.with_int.ensures.next

pub statement::with_statement-returns-in-LocalRef-clause-put : goal.statement::with_statement-returns-in-LocalRef-clause-put
statement::with_statement-returns-in-LocalRef-clause-put t c =
    let l = lowering_of c.args.l.now in
    let at = c.args.at in
    let old = map region_of c.args.before.now.items in
    let meant : local_ref c.in-LocalRef.reference c.as_slice-in-LocalRef.result.now ≡ statement_of c.args.s.now = search (rules, statement_rows, c.in-LocalRef.is, c.as_slice-in-LocalRef.ensures.value) in
    subst (λ s. OnOk c.with_reference.result (map region_of c.with_reference.new.before.items ≡ old ++ statement l s nothing_more at.innermost_loop at.next_variable at.depth)) meant
    c.with_reference.ensures.put

pub statement::with_statement-returns-in-LocalRef-clause-next : goal.statement::with_statement-returns-in-LocalRef-clause-next
statement::with_statement-returns-in-LocalRef-clause-next t c =
    let meant : local_ref c.in-LocalRef.reference c.as_slice-in-LocalRef.result.now ≡ statement_of c.args.s.now = search (rules, statement_rows, c.in-LocalRef.is, c.as_slice-in-LocalRef.ensures.value) in
    subst (λ s. IfOk c.with_reference.result (λ n. n ≡ c.args.at.next_variable + length (declared_in s))) meant c.with_reference.ensures.next
