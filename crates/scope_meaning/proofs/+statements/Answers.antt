use mir.Syntax.{w32}
use mir.Val.{of_z}
use Rattle.std.proofs.Common.{◌≡◌, refl, ◌∙◌, ◌+◌, ◌-◌, ◌<◌, suc, ap, sym, subst, map, rules, arith}
use Rattle.std.specs.Prelude.{option_map}
use Rattle.cxx_ast.specs.Plain.{if_else}
use Rattle.cxx_ast.specs.View.{checked_of, expression_of, expressions_of, option_of, statement_of, statements_of}
use Rattle.meaning_forms.specs.Context.{guarded_by, handling, try_block}
use Rattle.meaning_forms.specs.Outcome.{normal, pure}
use Rattle.meaning_forms.specs.Construct.{destroy}
use Rattle.meaning_forms.specs.Frame.{with_parameter, with_variable}
use Rattle.meaning_forms.specs.Expression.{value_of}
use Rattle.meaning_forms.specs.Statement.{loop, statement, statements}
use Rattle.scope_world.specs.Gives.{GivesBy, Halts, flow_of}
use Rattle.scope_world.specs.Inward.{clause_in, context_of, frame_of}
use Rattle.scope_world.specs.Objects.{reference_of, type_of}
use Rattle.scope_world.specs.Seen.{exception_of, world_of}
use Rattle.scope_flow.specs.Always.{always}
use Rattle.scope_meaning.specs.Steps.{handler_done, plainly}
use Rattle.scope_meaning.proofs.Declared.{body_left, first_side, object_declared, object_halted, object_in_scope}
use Rattle.scope_meaning.proofs.Handled.{caught_so, handled_done, not_caught, not_thrown, tried_caught, tried_done, tried_halted}
use Rattle.scope_meaning.proofs.Rounds.{body_breaks, body_continues, body_halted, body_normal, body_returns, round_goes_on, round_halts, round_leaves, rounds_begin, rounds_end}
use Rattle.scope_meaning.proofs.Shallower.{else_part, found_shallower, rest_shallower}
use Rattle.scope_meaning.proofs.Stepped.{halted, stepped}
use Rattle.scope_meaning.proofs.+statements.Goals as goal

pub handling::caught-returns-in-Some : goal.handling::caught-returns-in-Some
handling::caught-returns-in-Some g t c =
    let d = c.args.c.now.depth in
    let r = always (checked_of c.args.c.now.program.now) in
    let f = frame_of c.args.frame.now in
    let k = context_of c.args.c.now in
    let w = world_of g.G.Outside.told d c.args.w.now in
    caught_so r c.args.handlers.now c.in-Some.handler.now f k c.args.number w (world_of g.G.Outside.told d c.handle.new.w) (exception_of c.exception.result) (option_of type_of c.ty-thrown.result) (option_map (λ x. x.now) c.handler_for.result) c.handle.result (c.exception.ensures d) c.ty-thrown.ensures c.handler_for.ensures (ap (option_map (λ x. x.now)) c.in-Some.is) c.handle.ensures

pub handling::caught-returns-in-None : goal.handling::caught-returns-in-None
handling::caught-returns-in-None g t c =
    let d = c.args.c.now.depth in
    let r = always (checked_of c.args.c.now.program.now) in
    let f = frame_of c.args.frame.now in
    let k = context_of c.args.c.now in
    let w = world_of g.G.Outside.told d c.args.w.now in
    not_caught r c.args.handlers.now f k c.args.number w (exception_of c.exception.result) (option_of type_of c.ty-thrown.result) (option_map (λ x. x.now) c.handler_for.result) (c.exception.ensures d) c.ty-thrown.ensures c.handler_for.ensures (ap (option_map (λ x. x.now)) c.in-None.is)

pub handling::handle-returns : goal.handling::handle-returns
handling::handle-returns g t c =
    let d = c.args.c.now.depth in
    let r = always (checked_of c.args.c.now.program.now) in
    let f = frame_of c.args.frame.now in
    let k = context_of c.args.c.now in
    let w = world_of g.G.Outside.told d c.args.w.now in
    let e = c.args.number in
    let u = (world_of g.G.Outside.told d c.entered.new.w) in
    let p = reference_of c.in_ok-parameter.parameter in
    handled_done r e c.args.handler.now.ty c.args.handler.now.name (statements_of c.args.handler.now.body.items) f k w u (world_of g.G.Outside.told d c.after_handler.new.w) p c.after_handler.result c.in_ok-parameter.ensures
    (c.after_handler.ensures (handler_done r c.args.handler.now.ty c.args.handler.now.name (statements_of c.args.handler.now.body.items) p f (handling e k) u) c.handler_body-outcome.ensures)

pub handling::handler_body-returns : goal.handling::handler_body-returns
handling::handler_body-returns g t c =
    let d = c.args.c.now.depth in
    let r = always (checked_of c.args.c.now.program.now) in
    let f = frame_of c.args.frame.now in
    let k = context_of c.args.c.now in
    let w = world_of g.G.Outside.told d c.args.w.now in
    let x = reference_of c.args.parameter.now in
    let y = reference_of c.in_ok-at.at in
    body_left r c.args.handler.now.ty c.args.handler.now.name (statements_of c.args.handler.now.body.items) x y f k w (world_of g.G.Outside.told d c.after_scope.new.w) (destroy r (type_of c.own_type.result) x) c.after_scope.result c.in_ok-at.ensures (c.own_type.ensures r x)
    (c.after_scope.ensures (statements r (statements_of c.args.handler.now.body.items) (with_parameter c.args.handler.now.name y f) k w)
    (subst (λ z. GivesBy flow_of (statements r (statements_of z) (with_parameter c.args.handler.now.name y f) k w) c.with_parameter-outcome.result (world_of g.G.Outside.told d c.with_parameter-outcome.new.w)) c.as_slice.ensures.value c.with_parameter-outcome.ensures))

pub statement::local_object-returns-in_err-construct : goal.statement::local_object-returns-in_err-construct
statement::local_object-returns-in_err-construct g t c =
    let d = c.args.c.now.depth in
    let r = always (checked_of c.args.c.now.program.now) in
    let f = frame_of c.args.frame.now in
    let k = context_of c.args.c.now in
    let w = world_of g.G.Outside.told d c.args.w.now in
    let es = expressions_of c.args.es.now in
    let ss = statements_of c.args.rest.now in
    let u = (world_of g.G.Outside.told d c.unset_object.new.w) in
    let v = (world_of g.G.Outside.told d c.construct.new.w) in
    let x = reference_of c.whole-target.result in
    let halted = object_halted r c.args.class c.args.name.now es ss f k w u v c.in_ok-object.object x c.in_err-construct.field-0.0 (c.in_ok-object.ensures d) c.whole-target.ensures c.in_err-construct.ensures in
    search (rules, halted)

pub statement::local_object-returns : goal.statement::local_object-returns
statement::local_object-returns g t c =
    let d = c.args.c.now.depth in
    let r = always (checked_of c.args.c.now.program.now) in
    let f = frame_of c.args.frame.now in
    let k = context_of c.args.c.now in
    let w = world_of g.G.Outside.told d c.args.w.now in
    let es = expressions_of c.args.es.now in
    let ss = statements_of c.args.rest.now in
    let u = (world_of g.G.Outside.told d c.unset_object.new.w) in
    let v = (world_of g.G.Outside.told d c.construct.new.w) in
    let x = reference_of c.whole-target.result in
    let y = reference_of c.whole-at.result in
    object_in_scope r c.args.class c.args.name.now es ss f k w u v (world_of g.G.Outside.told d c.after_scope.new.w) c.in_ok-object.object x y c.after_scope.result (c.in_ok-object.ensures d) c.whole-target.ensures c.in_ok-construct.ensures c.whole-at.ensures
    (c.after_scope.ensures (statements r ss (with_variable c.args.name.now y f) k v) c.with_variable-outcome.ensures)

pub statement::round-returns-in_err-statements : goal.statement::round-returns-in_err-statements
statement::round-returns-in_err-statements g t c =
    let d = c.args.c.now.depth in
    let r = always (checked_of c.args.c.now.program.now) in
    let f = frame_of c.args.frame.now in
    let k = context_of c.args.c.now in
    let w = world_of g.G.Outside.told d c.args.w.now in
    let test = value_of r f (expression_of c.args.test.now) k in
    let s = statement_of c.args.body.now in
    let ss = statements_of c.one.result.now in
    let u = (world_of g.G.Outside.told d c.spend_turn.new.self) in
    let x = (world_of g.G.Outside.told d c.value_of.new.w) in
    let y = (world_of g.G.Outside.told d c.statements.new.w) in
    λ n.
    let halted = body_halted n test r s ss f k w u x y c.in_ok-value_of.field-0 c.in_err-statements.field-0.0 (c.in_ok-spend_turn.ensures d) c.in_ok-value_of.ensures (λ null. c.if-branch-eq0.false (ap (of_z w32) null)) c.one.ensures c.in_err-statements.ensures in
    search (rules, halted)

pub statement::round-returns-in-Normal : goal.statement::round-returns-in-Normal
statement::round-returns-in-Normal g t c =
    let d = c.args.c.now.depth in
    let r = always (checked_of c.args.c.now.program.now) in
    let f = frame_of c.args.frame.now in
    let k = context_of c.args.c.now in
    let w = world_of g.G.Outside.told d c.args.w.now in
    let test = value_of r f (expression_of c.args.test.now) k in
    let s = statement_of c.args.body.now in
    let ss = statements_of c.one.result.now in
    let u = (world_of g.G.Outside.told d c.spend_turn.new.self) in
    let x = (world_of g.G.Outside.told d c.value_of.new.w) in
    let y = (world_of g.G.Outside.told d c.statements.new.w) in
    λ n. body_normal n test r s ss f k w u x y c.in_ok-value_of.field-0 c.in_ok-statements.field-0 (c.in_ok-spend_turn.ensures d) c.in_ok-value_of.ensures (λ null. c.if-branch-eq0.false (ap (of_z w32) null)) c.one.ensures c.in_ok-statements.ensures c.in-Normal.is

pub statement::round-returns-in-Continues : goal.statement::round-returns-in-Continues
statement::round-returns-in-Continues g t c =
    let d = c.args.c.now.depth in
    let r = always (checked_of c.args.c.now.program.now) in
    let f = frame_of c.args.frame.now in
    let k = context_of c.args.c.now in
    let w = world_of g.G.Outside.told d c.args.w.now in
    let test = value_of r f (expression_of c.args.test.now) k in
    let s = statement_of c.args.body.now in
    let ss = statements_of c.one.result.now in
    let u = (world_of g.G.Outside.told d c.spend_turn.new.self) in
    let x = (world_of g.G.Outside.told d c.value_of.new.w) in
    let y = (world_of g.G.Outside.told d c.statements.new.w) in
    λ n. body_continues n test r s ss f k w u x y c.in_ok-value_of.field-0 c.in_ok-statements.field-0 (c.in_ok-spend_turn.ensures d) c.in_ok-value_of.ensures (λ null. c.if-branch-eq0.false (ap (of_z w32) null)) c.one.ensures c.in_ok-statements.ensures c.in-Continues.is

pub statement::round-returns-in-Breaks : goal.statement::round-returns-in-Breaks
statement::round-returns-in-Breaks g t c =
    let d = c.args.c.now.depth in
    let r = always (checked_of c.args.c.now.program.now) in
    let f = frame_of c.args.frame.now in
    let k = context_of c.args.c.now in
    let w = world_of g.G.Outside.told d c.args.w.now in
    let test = value_of r f (expression_of c.args.test.now) k in
    let s = statement_of c.args.body.now in
    let ss = statements_of c.one.result.now in
    let u = (world_of g.G.Outside.told d c.spend_turn.new.self) in
    let x = (world_of g.G.Outside.told d c.value_of.new.w) in
    let y = (world_of g.G.Outside.told d c.statements.new.w) in
    λ n. body_breaks n test r s ss f k w u x y c.in_ok-value_of.field-0 c.in_ok-statements.field-0 (c.in_ok-spend_turn.ensures d) c.in_ok-value_of.ensures (λ null. c.if-branch-eq0.false (ap (of_z w32) null)) c.one.ensures c.in_ok-statements.ensures c.in-Breaks.is

pub statement::round-returns-in-Returns : goal.statement::round-returns-in-Returns
statement::round-returns-in-Returns g t c =
    let d = c.args.c.now.depth in
    let r = always (checked_of c.args.c.now.program.now) in
    let f = frame_of c.args.frame.now in
    let k = context_of c.args.c.now in
    let w = world_of g.G.Outside.told d c.args.w.now in
    let test = value_of r f (expression_of c.args.test.now) k in
    let s = statement_of c.args.body.now in
    let ss = statements_of c.one.result.now in
    let u = (world_of g.G.Outside.told d c.spend_turn.new.self) in
    let x = (world_of g.G.Outside.told d c.value_of.new.w) in
    let y = (world_of g.G.Outside.told d c.statements.new.w) in
    λ n. body_returns n test r s ss f k w u x y c.in_ok-value_of.field-0 c.in_ok-statements.field-0 c.in-Returns.value (c.in_ok-spend_turn.ensures d) c.in_ok-value_of.ensures (λ null. c.if-branch-eq0.false (ap (of_z w32) null)) c.one.ensures c.in_ok-statements.ensures c.in-Returns.is

pub statement::statement-returns-in-While : goal.statement::statement-returns-in-While
statement::statement-returns-in-While g t c =
    let d = c.args.c.now.depth in
    let r = always (checked_of c.args.c.now.program.now) in
    let f = frame_of c.args.frame.now in
    let k = context_of c.args.c.now in
    let w = world_of g.G.Outside.told d c.args.w.now in
    let v = (world_of g.G.Outside.told d c.while_loop.new.w) in
    subst (λ i. GivesBy flow_of (plainly r (statement_of i) f k w) c.while_loop.result v) (sym c.in-While.is)
    (subst (λ b. GivesBy flow_of (loop (suc c.args.w.now.turns) (value_of r f (expression_of c.in-While.e) k) (statement r (statement_of b) (λ h. pure normal) f k) w) c.while_loop.result v) c.deref.ensures c.while_loop.ensures)

pub handling::try_block-returns-in-Ok : goal.handling::try_block-returns-in-Ok
handling::try_block-returns-in-Ok g t c =
    let d = c.args.c.now.depth in
    let r = always (checked_of c.args.c.now.program.now) in
    let f = frame_of c.args.frame.now in
    let k = context_of c.args.c.now in
    let w = world_of g.G.Outside.told d c.args.w.now in
    let body = statements_of c.args.body.now in
    let hs = c.args.handlers.now in
    let u = (world_of g.G.Outside.told d c.statements.new.w) in
    tried_done r body hs f k w u (flow_of c.in-Ok.flow) c.in-Ok.ensures

pub handling::try_block-returns-in-Thrown : goal.handling::try_block-returns-in-Thrown
handling::try_block-returns-in-Thrown g t c =
    let d = c.args.c.now.depth in
    let r = always (checked_of c.args.c.now.program.now) in
    let f = frame_of c.args.frame.now in
    let k = context_of c.args.c.now in
    let w = world_of g.G.Outside.told d c.args.w.now in
    let body = statements_of c.args.body.now in
    let hs = c.args.handlers.now in
    let u = (world_of g.G.Outside.told d c.statements.new.w) in
    tried_caught r body hs f k w u (world_of g.G.Outside.told d c.caught.new.w) c.in-Thrown.number c.caught.result (subst (λ h. Halts (statements r body f (guarded_by (try_block (map clause_in hs)) k) w) h u) c.in-Thrown.is c.in-Err.ensures) c.caught.ensures

pub handling::try_block-returns-in_default : goal.handling::try_block-returns-in_default
handling::try_block-returns-in_default g t c =
    let d = c.args.c.now.depth in
    let r = always (checked_of c.args.c.now.program.now) in
    let f = frame_of c.args.frame.now in
    let k = context_of c.args.c.now in
    let w = world_of g.G.Outside.told d c.args.w.now in
    let body = statements_of c.args.body.now in
    let hs = c.args.handlers.now in
    let u = (world_of g.G.Outside.told d c.statements.new.w) in
    tried_halted r body hs f k w u c.in-Err.halt (not_thrown c.in-Err.halt c.in_default.not-Thrown) c.in-Err.ensures

pub statement::while_loop-loop-init : goal.statement::while_loop-loop-init
statement::while_loop-loop-init g t c =
    let d = c.args.c.now.depth in
    let r = always (checked_of c.args.c.now.program.now) in
    let f = frame_of c.args.frame.now in
    let k = context_of c.args.c.now in
    let w = world_of g.G.Outside.told d c.args.w.now in
    let test = value_of r f (expression_of c.args.test.now) k in
    let body = statement r (statement_of c.args.body.now) (λ h. pure normal) f k in
    let turns = c.args.w.now.turns in
    let total = loop (suc turns) test body w in
    rounds_begin turns (turns - 0) test body w (omega arith)

pub statement::while_loop-returns-in_err-flow : goal.statement::while_loop-returns-in_err-flow
statement::while_loop-returns-in_err-flow g t c =
    let d = c.args.c.now.depth in
    let r = always (checked_of c.args.c.now.program.now) in
    let f = frame_of c.args.frame.now in
    let k = context_of c.args.c.now in
    let w = world_of g.G.Outside.told d c.args.w.now in
    let test = value_of r f (expression_of c.args.test.now) k in
    let body = statement r (statement_of c.args.body.now) (λ h. pure normal) f k in
    let turns = c.args.w.now.turns in
    let total = loop (suc turns) test body w in
    let left = turns - c.loop.counter in
    let u = (world_of g.G.Outside.told d c.loop.w) in
    let v = (world_of g.G.Outside.told d c.round.new.w) in
    let halted = round_halts total left test body u v c.in_err-flow.field-0.0 c.loop.invariant (c.in_err-flow.ensures left) in
    search (rules, halted)

pub statement::while_loop-returns-in-Some : goal.statement::while_loop-returns-in-Some
statement::while_loop-returns-in-Some g t c =
    let d = c.args.c.now.depth in
    let r = always (checked_of c.args.c.now.program.now) in
    let f = frame_of c.args.frame.now in
    let k = context_of c.args.c.now in
    let w = world_of g.G.Outside.told d c.args.w.now in
    let test = value_of r f (expression_of c.args.test.now) k in
    let body = statement r (statement_of c.args.body.now) (λ h. pure normal) f k in
    let turns = c.args.w.now.turns in
    let total = loop (suc turns) test body w in
    let left = turns - c.loop.counter in
    let u = (world_of g.G.Outside.told d c.loop.w) in
    let v = (world_of g.G.Outside.told d c.round.new.w) in
    round_leaves total left test body u v c.in_ok-flow.field-0 c.in-Some.flow c.loop.invariant (c.in_ok-flow.ensures left) c.in-Some.is

pub statement::while_loop-loop-preserved : goal.statement::while_loop-loop-preserved
statement::while_loop-loop-preserved g t c =
    let d = c.args.c.now.depth in
    let r = always (checked_of c.args.c.now.program.now) in
    let f = frame_of c.args.frame.now in
    let k = context_of c.args.c.now in
    let w = world_of g.G.Outside.told d c.args.w.now in
    let test = value_of r f (expression_of c.args.test.now) k in
    let body = statement r (statement_of c.args.body.now) (λ h. pure normal) f k in
    let turns = c.args.w.now.turns in
    let total = loop (suc turns) test body w in
    let left = turns - c.loop.counter in
    let u = (world_of g.G.Outside.told d c.loop.w) in
    let v = (world_of g.G.Outside.told d c.round.new.w) in
    let inside : c.loop.counter < turns = c.loop-test.true in
    let next : left ≡ suc (turns - (c.loop.counter + 1)) = omega arith in
    round_goes_on total left (turns - (c.loop.counter + 1)) test body u v c.in_ok-flow.field-0 c.loop.invariant (c.in_ok-flow.ensures left) c.in_default.not-Some next

pub statement::while_loop-returns-in_err-flow-2 : goal.statement::while_loop-returns-in_err-flow-2
statement::while_loop-returns-in_err-flow-2 g t c =
    let d = c.args.c.now.depth in
    let r = always (checked_of c.args.c.now.program.now) in
    let f = frame_of c.args.frame.now in
    let k = context_of c.args.c.now in
    let w = world_of g.G.Outside.told d c.args.w.now in
    let test = value_of r f (expression_of c.args.test.now) k in
    let body = statement r (statement_of c.args.body.now) (λ h. pure normal) f k in
    let turns = c.args.w.now.turns in
    let total = loop (suc turns) test body w in
    let left = turns - c.loop.counter in
    let u = (world_of g.G.Outside.told d c.loop.w) in
    let v = (world_of g.G.Outside.told d c.round-2.new.w) in
    let halted = round_halts total left test body u v c.in_err-flow-2.field-0.0 c.loop.invariant (c.in_err-flow-2.ensures left) in
    search (rules, halted)

pub statement::while_loop-returns-in-Some-2 : goal.statement::while_loop-returns-in-Some-2
statement::while_loop-returns-in-Some-2 g t c =
    let d = c.args.c.now.depth in
    let r = always (checked_of c.args.c.now.program.now) in
    let f = frame_of c.args.frame.now in
    let k = context_of c.args.c.now in
    let w = world_of g.G.Outside.told d c.args.w.now in
    let test = value_of r f (expression_of c.args.test.now) k in
    let body = statement r (statement_of c.args.body.now) (λ h. pure normal) f k in
    let turns = c.args.w.now.turns in
    let total = loop (suc turns) test body w in
    let left = turns - c.loop.counter in
    let u = (world_of g.G.Outside.told d c.loop.w) in
    let v = (world_of g.G.Outside.told d c.round-2.new.w) in
    round_leaves total left test body u v c.in_ok-flow-2.field-0 c.in-Some-2.flow c.loop.invariant (c.in_ok-flow-2.ensures left) c.in-Some-2.is

pub statement::while_loop-returns-in-None : goal.statement::while_loop-returns-in-None
statement::while_loop-returns-in-None g t c =
    let d = c.args.c.now.depth in
    let r = always (checked_of c.args.c.now.program.now) in
    let f = frame_of c.args.frame.now in
    let k = context_of c.args.c.now in
    let w = world_of g.G.Outside.told d c.args.w.now in
    let test = value_of r f (expression_of c.args.test.now) k in
    let body = statement r (statement_of c.args.body.now) (λ h. pure normal) f k in
    let turns = c.args.w.now.turns in
    let total = loop (suc turns) test body w in
    let left = turns - c.loop.counter in
    let u = (world_of g.G.Outside.told d c.loop.w) in
    let v = (world_of g.G.Outside.told d c.round-2.new.w) in
    let last : left ≡ 0 = search (rules, arith) in
    rounds_end total left test body u v c.in_ok-flow-2.field-0 c.loop.invariant (c.in_ok-flow-2.ensures left) c.in-None.is last

pub handling::caught-handle-requires : goal.handling::caught-handle-requires
handling::caught-handle-requires g t c κs within =
    let found = found_shallower _ c.args.handlers.now c.in-Some.handler.now (sym c.handler_for.ensures ∙ ap (option_map (λ x. x.now)) c.in-Some.is) in
    search (rules, arith, found)

pub statement::chosen-returns-then-branch-ne0 : goal.statement::chosen-returns-then-branch-ne0
statement::chosen-returns-then-branch-ne0 g t c =
    let d = c.args.c.now.depth in
    let r = always (checked_of c.args.c.now.program.now) in
    let f = frame_of c.args.frame.now in
    let k = context_of c.args.c.now in
    let w = world_of g.G.Outside.told d c.args.w.now in
    let u = world_of g.G.Outside.told d c.value_of.new.w in
    let v = world_of g.G.Outside.told d c.statements.new.w in
    let n = c.in_ok-value_of-in-If.field-0 in
    let single = c.one.ensures in
    let given = c.in_ok-value_of-in-If.ensures in
    let other = else_part (statement_of c.args.it.now) in
    let whole : statement_of c.args.it.now ≡ if_else (expression_of c.in-If.e) (statement_of c.in-If.yes.value) other = rw c.in-If.is refl in
    let side = first_side r (expression_of c.in-If.e) (statement_of c.in-If.yes.value) other f k w u v n (statements_of c.one.result.now) c.statements.result given (λ null. c.if-branch-ne0.true (ap (of_z w32) null)) (rw c.deref.ensures at single) c.statements.ensures in
    subst (λ x. GivesBy flow_of (plainly r x f k w) c.statements.result v) (sym whole) side

pub statement::declaration-returns-in-LocalObject : goal.statement::declaration-returns-in-LocalObject
statement::declaration-returns-in-LocalObject g t c =
    let d = c.args.c.now.depth in
    let r = always (checked_of c.args.c.now.program.now) in
    let f = frame_of c.args.frame.now in
    let k = context_of c.args.c.now in
    let w = world_of g.G.Outside.told d c.args.w.now in
    let v = world_of g.G.Outside.told d c.local_object.new.w in
    let ss = statements_of c.args.rest.now in
    let es = expressions_of c.as_slice-in-LocalObject.result.now in
    let declared = object_declared r c.in-LocalObject.class c.in-LocalObject.name es ss f k w v c.class_named-class.result c.local_object.result c.class_named-class.ensures c.local_object.ensures in
    search (rules, declared)

pub statement::statements-returns-in_err-flow : goal.statement::statements-returns-in_err-flow
statement::statements-returns-in_err-flow g t c =
    let d = c.args.c.now.depth in
    let r = always (checked_of c.args.c.now.program.now) in
    let f = frame_of c.args.frame.now in
    let k = context_of c.args.c.now in
    let u = world_of g.G.Outside.told d c.statements.w in
    let v = world_of g.G.Outside.told d c.statement.new.w in
    let s = statement_of c.in-Some.first.now in
    let ss = statements_of c.in-Some.others.now in
    let same = c.statements.invariant.0 in
    let stops = halted r s ss f k u v c.in_err-flow.field-0.0 in
    search (rules, same, stops)

pub statement::statements-statements-preserved : goal.statement::statements-statements-preserved
statement::statements-statements-preserved g t c =
    let d = c.args.c.now.depth in
    let r = always (checked_of c.args.c.now.program.now) in
    let f = frame_of c.args.frame.now in
    let k = context_of c.args.c.now in
    let u = world_of g.G.Outside.told d c.statements.w in
    let v = world_of g.G.Outside.told d c.statement.new.w in
    let s = statement_of c.in-Some.first.now in
    let ss = statements_of c.in-Some.others.now in
    let same = c.statements.invariant.0 in
    let light = c.statements.invariant.1 in
    let step = stepped r s ss f k u v in
    let lighter = rest_shallower s ss in
    (search (rules, same, step), search (rules, arith, light, lighter))
