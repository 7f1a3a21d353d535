use Rattle.std.proofs.Common.{◌≡◌, ◌≤◌, ◌+◌, ◌-◌, ◌*◌, suc, length, max}
use Rattle.cxx_ast.specs.View.{checked_of, expression_of, statement_of, statements_of, handlers_of}
use Rattle.meaning_forms.specs.Outcome.{normal, pure}
use Rattle.meaning_forms.specs.Expression.{value_of}
use Rattle.meaning_forms.specs.Statement.{loop, statement, statements}
use Rattle.scope_world.specs.Inward.{context_of, frame_of}
use Rattle.scope_world.specs.Seen.{world_of}
use Rattle.scope_flow.specs.Always.{always}
use Rattle.scope_meaning.specs.Levels.{declared_levels, statement_levels, statements_levels, handlers_levels}
use Rattle.scope_meaning.proofs.+statements.Given as goal

abbrev pub decreases-statement::statement : goal.decreases-statement::statement
decreases-statement::statement g l = statement_levels (statement_of l.it.now) * 16 + 3

abbrev pub decreases-statement::declaration : goal.decreases-statement::declaration
decreases-statement::declaration g l = max (declared_levels (statement_of l.first.now)) (statements_levels (statements_of l.rest.now)) * 16 + 19

abbrev pub decreases-statement::statements : goal.decreases-statement::statements
decreases-statement::statements g l = statements_levels (statements_of l.body.now) * 16 + 4

abbrev pub decreases-statement::chosen : goal.decreases-statement::chosen
decreases-statement::chosen g l = statement_levels (statement_of l.it.now) * 16 + 2

abbrev pub decreases-statement::with_variable : goal.decreases-statement::with_variable
decreases-statement::with_variable g l = statements_levels (statements_of l.body.now) * 16 + 5

abbrev pub decreases-statement::round : goal.decreases-statement::round
decreases-statement::round g l = statement_levels (statement_of l.body.now) * 16 + 5

abbrev pub decreases-statement::with_parameter : goal.decreases-statement::with_parameter
decreases-statement::with_parameter g l = statements_levels (statements_of l.body.now) * 16 + 6

abbrev pub decreases-statement::while_loop : goal.decreases-statement::while_loop
decreases-statement::while_loop g l = statement_levels (statement_of l.body.now) * 16 + 6

abbrev pub decreases-statement::local_object : goal.decreases-statement::local_object
decreases-statement::local_object g l = statements_levels (statements_of l.rest.now) * 16 + 7

abbrev pub decreases-handling::handler_body : goal.decreases-handling::handler_body
decreases-handling::handler_body g l = statements_levels (statements_of l.handler.now.body.items) * 16 + 7

abbrev pub decreases-handling::handle : goal.decreases-handling::handle
decreases-handling::handle g l = statements_levels (statements_of l.handler.now.body.items) * 16 + 8

abbrev pub decreases-handling::caught : goal.decreases-handling::caught
decreases-handling::caught g l = handlers_levels (handlers_of l.handlers.now) * 16 + 9

abbrev pub decreases-handling::try_block : goal.decreases-handling::try_block
decreases-handling::try_block g l = max (statements_levels (statements_of l.body.now)) (handlers_levels (handlers_of l.handlers.now)) * 16 + 10

-- what is left of the statements means what they meant at first
abbrev pub invariant-statement::statements-statements : goal.invariant-statement::statements-statements
invariant-statement::statements-statements g l =
    (statements (always (checked_of l.c.program.now)) (statements_of l.initial.rest) (frame_of l.frame) (context_of l.c) (world_of g.G.Outside.told l.c.depth l.initial.w)
    ≡ statements (always (checked_of l.c.program.now)) (statements_of l.rest) (frame_of l.frame) (context_of l.c) (world_of g.G.Outside.told l.c.depth l.w))
    × (statements_levels (statements_of l.rest) ≤ statements_levels (statements_of l.initial.rest))

abbrev pub decreases-statement::statements-statements : goal.decreases-statement::statements-statements
decreases-statement::statements-statements g l = length l.rest

-- what is left of the loop means what it meant at first
abbrev pub invariant-statement::while_loop-loop : goal.invariant-statement::while_loop-loop
invariant-statement::while_loop-loop g l =
    loop (suc l.initial.w.turns) (value_of (always (checked_of l.c.program.now)) (frame_of l.frame) (expression_of l.test) (context_of l.c)) (statement (always (checked_of l.c.program.now)) (statement_of l.body) (λ f. pure normal) (frame_of l.frame) (context_of l.c)) (world_of g.G.Outside.told l.c.depth l.initial.w)
    ≡ loop (suc (l.end - l.counter)) (value_of (always (checked_of l.c.program.now)) (frame_of l.frame) (expression_of l.test) (context_of l.c)) (statement (always (checked_of l.c.program.now)) (statement_of l.body) (λ f. pure normal) (frame_of l.frame) (context_of l.c)) (world_of g.G.Outside.told l.c.depth l.w)
