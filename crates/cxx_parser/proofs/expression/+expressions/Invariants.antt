use Rattle.std.proofs.Common.{◌≡◌, ◌<◌, ◌≤◌, ℕ, ◌+◌, ◌*◌, length, List, [], map, true}
use Rattle.cxx_ast.specs.Limits.{most_depth}
use Rattle.cxx_ast.specs.View.{expression_of}
use Rattle.cxx_parser.specs.Contexts.{Pending, InExpression, InCall, in_argument}
use Rattle.cxx_parser.specs.Operators.{bind_below}
use Rattle.cxx_parser.specs.Reading.{read}
use Rattle.cxx_parser.specs.States.{want_operand, have_operand, have_argument}
use Rattle.cxx_parser.proofs.expression.+expressions.Given as goal

abbrev pub decreases-expression : goal.decreases-expression
decreases-expression l = 8 * length l.tokens.now + 2

abbrev pub decreases-operators : goal.decreases-operators
decreases-operators l = 8 * length l.tokens.now + 1

abbrev pub decreases-operand : goal.decreases-operand
decreases-operand l = 8 * length l.tokens.now

abbrev pub decreases-paren : goal.decreases-paren
decreases-paren l = 8 * length l.tokens.now + 5

abbrev pub decreases-path_or_call : goal.decreases-path_or_call
decreases-path_or_call l = 8 * length l.tokens.now + 5

abbrev pub decreases-std_call : goal.decreases-std_call
decreases-std_call l = 8 * length l.tokens.now + 5

abbrev pub decreases-arguments : goal.decreases-arguments
decreases-arguments l = 8 * length l.tokens.now + 4

abbrev pub decreases-some_arguments : goal.decreases-some_arguments
decreases-some_arguments l = 8 * length l.tokens.now + 3

abbrev pub invariant-operators-loop-op : goal.invariant-operators-loop-op
invariant-operators-loop-op l = record {
  so_far : (total : ℕ) (ps : List Pending) (E : InExpression) → bind_below l.level ps ≡ true → read total l.end l.tokens (want_operand l.depth ps E) ≡ read total l.end l.rest (have_operand l.depth (expression_of l.left.expr) ps E);
  shorter : length l.rest < length l.tokens;
  low : l.depth + l.left.levels ≤ most_depth;
}

abbrev pub decreases-operators-loop-op : goal.decreases-operators-loop-op
decreases-operators-loop-op l = length l.rest

abbrev pub invariant-some_arguments-loop-after : goal.invariant-some_arguments-loop-after
invariant-some_arguments-loop-after l = record {
  so_far : (total : ℕ) (K : InCall) → read total l.end l.tokens (want_operand l.depth [] (in_argument l.depth [] K)) ≡ read total l.end l.rest (have_argument l.depth (map expression_of l.args.list.items) K);
  shorter : length l.rest < length l.tokens;
  low : l.depth + l.args.levels ≤ most_depth + 1;
}

abbrev pub decreases-some_arguments-loop-after : goal.decreases-some_arguments-loop-after
decreases-some_arguments-loop-after l = length l.rest
