use Rattle.std.proofs.Common.{◌≡◌, ◌≤◌, ◌+◌, ◌++◌, drop, length, map}
use Rattle.cxx_ast.specs.View.{statement_of, statements_of, handlers_of}
use Rattle.region_forms.specs.LowerStatement.{clauses, statements}
use Rattle.region_forms.specs.Numbering.{all_declared_in, declared_in_handlers}
use Rattle.region_ir.specs.Given.{lowering_of}
use Rattle.region_ir.specs.View.{region_of}
use Rattle.region_ir.proofs.Clauses.{clauses_then}
use Rattle.region_ir.proofs.Weight.{weight, weight_all, weight_handlers}
use Rattle.region_ir.proofs.+statements.Given as goal

abbrev pub decreases-statement::with_statements : goal.decreases-statement::with_statements
decreases-statement::with_statements l = weight_all (statements_of l.ss.now)

abbrev pub decreases-statement::with_object : goal.decreases-statement::with_object
decreases-statement::with_object l = weight_all (statements_of l.rest.now) + 2

abbrev pub decreases-statement::block : goal.decreases-statement::block
decreases-statement::block l = weight_all (statements_of l.ss.now) + 1

abbrev pub decreases-statement::single : goal.decreases-statement::single
decreases-statement::single l = weight (statement_of l.s.now) + 4

abbrev pub decreases-statement::with_if : goal.decreases-statement::with_if
decreases-statement::with_if l = weight (statement_of l.yes.now) + 5

abbrev pub decreases-statement::with_if_else : goal.decreases-statement::with_if_else
decreases-statement::with_if_else l = weight (statement_of l.yes.now) + weight (statement_of l.no.now) + 5

abbrev pub decreases-statement::with_while : goal.decreases-statement::with_while
decreases-statement::with_while l = weight (statement_of l.body.now) + 5

abbrev pub decreases-statement::with_block : goal.decreases-statement::with_block
decreases-statement::with_block l = weight_all (statements_of l.ss.now) + 2

abbrev pub decreases-statement::with_statement : goal.decreases-statement::with_statement
decreases-statement::with_statement l = weight (statement_of l.s.now) + 3

abbrev pub decreases-catching::with_try : goal.decreases-catching::with_try
decreases-catching::with_try l = weight_all (statements_of l.ss.now) + weight_handlers (handlers_of l.hs.now) + 6

abbrev pub decreases-catching::clauses : goal.decreases-catching::clauses
decreases-catching::clauses l = weight_handlers (handlers_of l.hs.now) + 5

abbrev pub decreases-catching::clause : goal.decreases-catching::clause
decreases-catching::clause l = weight_all (statements_of l.h.now.body.items) + 5

abbrev pub decreases-catching::handler : goal.decreases-catching::handler
decreases-catching::handler l = weight_all (statements_of l.h.now.body.items) + 4

abbrev pub decreases-catching::with_caught : goal.decreases-catching::with_caught
decreases-catching::with_caught l = weight_all (statements_of l.ss.now) + 2

-- what is lowered so far, and what is left
abbrev pub invariant-statement::with_statements-statements : goal.invariant-statement::with_statements-statements
invariant-statement::with_statements-statements l = record {
  put :
      map region_of l.before.items ++ statements (lowering_of l.l) (statements_of l.rest) l.at.innermost_loop l.next l.at.depth
      ≡ map region_of l.initial.before.items ++ statements (lowering_of l.l) (statements_of l.initial.rest) l.at.innermost_loop l.initial.next l.at.depth;
  next :
      l.next + length (all_declared_in (statements_of l.rest)) ≡ l.initial.next + length (all_declared_in (statements_of l.initial.rest));
  lighter : weight_all (statements_of l.rest) ≤ weight_all (statements_of l.initial.rest);
}

abbrev pub decreases-statement::with_statements-statements : goal.decreases-statement::with_statements-statements
decreases-statement::with_statements-statements l = length l.rest

-- the clauses so far, and those that are left
abbrev pub invariant-catching::clauses-loop-h : goal.invariant-catching::clauses-loop-h
invariant-catching::clauses-loop-h l = record {
  clauses :
      clauses_then l.clauses.items (clauses (lowering_of l.l) (handlers_of (drop l.h-index l.hs)) l.at.innermost_loop l.next_variable l.at.depth)
      ≡ clauses (lowering_of l.l) (handlers_of l.hs) l.at.innermost_loop l.initial.next_variable l.at.depth;
  next :
      l.next_variable + length (declared_in_handlers (handlers_of (drop l.h-index l.hs))) ≡ l.initial.next_variable + length (declared_in_handlers (handlers_of l.hs));
  lighter : weight_handlers (handlers_of (drop l.h-index l.hs)) ≤ weight_handlers (handlers_of l.hs);
}
