use Rattle.std.proofs.Common.{◌≡◌, ◌≤◌, ◌+◌, ◌*◌, ◌++◌, length, map, max}
use Rattle.cxx_ast.specs.View.{checked_of, expression_of, expressions_of}
use Rattle.meaning_forms.specs.Outcome.{continued, pure}
use Rattle.meaning_forms.specs.Expression.{arguments}
use Rattle.scope_world.specs.Inward.{argument_of, context_of, frame_of}
use Rattle.scope_world.specs.Seen.{world_of}
use Rattle.scope_flow.specs.Always.{always}
use Rattle.scope_flow.specs.Asked.{parameter_types_of}
use Rattle.cxx_ast.specs.Sizes.{levels, most_levels}
use Rattle.scope_meaning.proofs.expression.+expressions.Given as goal

abbrev pub decreases-value_of : goal.decreases-value_of
decreases-value_of g l = levels (expression_of l.e.now) * 8

abbrev pub decreases-operated : goal.decreases-operated
decreases-operated g l = max (levels (expression_of l.left.now)) (levels (expression_of l.right.now)) * 8 + 1

abbrev pub decreases-called_by_name : goal.decreases-called_by_name
decreases-called_by_name g l = most_levels (expressions_of l.es.now) * 8 + 7

abbrev pub decreases-passed_value : goal.decreases-passed_value
decreases-passed_value g l = levels (expression_of l.e.now) * 8 + 1

abbrev pub decreases-passed : goal.decreases-passed
decreases-passed g l = levels (expression_of l.e.now) * 8 + 2

abbrev pub decreases-arguments : goal.decreases-arguments
decreases-arguments g l = most_levels (expressions_of l.es.now) * 8 + 3

abbrev pub decreases-builtin : goal.decreases-builtin
decreases-builtin g l = most_levels (expressions_of l.es.now) * 8 + 5

abbrev pub decreases-module_called : goal.decreases-module_called
decreases-module_called g l = most_levels (expressions_of l.es.now) * 8 + 4

abbrev pub decreases-called : goal.decreases-called
decreases-called g l = most_levels (expressions_of l.es.now) * 8 + 6

-- what is gathered so far and what is left are the arguments
abbrev pub invariant-arguments-arguments : goal.invariant-arguments-arguments
invariant-arguments-arguments g l =
    (arguments (always (checked_of l.c.program.now)) (frame_of l.frame) (expressions_of l.initial.rest) (parameter_types_of l.initial.wanted) (context_of l.c) (world_of g.G.Outside.told l.c.depth l.initial.w)
    ≡ continued (arguments (always (checked_of l.c.program.now)) (frame_of l.frame) (expressions_of l.rest) (parameter_types_of l.wanted) (context_of l.c) (world_of g.G.Outside.told l.c.depth l.w)) (λ more. pure (map argument_of l.given.items ++ more)))
    × (most_levels (expressions_of l.rest) ≤ most_levels (expressions_of l.initial.rest))

abbrev pub decreases-arguments-arguments : goal.decreases-arguments-arguments
decreases-arguments-arguments g l = length l.rest
