use Rattle.std.proofs.Common.{map, rules}
use Rattle.scope_world.specs.Inward.{argument_of}
use Rattle.scope_world.specs.Objects.{reference_of}
use Rattle.scope_flow.specs.Asked.{constructor_of}
use Rattle.scope_flow.specs.Asked.{parameter_types_of}
use Rattle.scope_meaning.proofs.Evaluated.{built_by, building_halted, arguments_halted}
use Rattle.cxx_ast.specs.View.{checked_of, expressions_of}
use Rattle.scope_world.specs.Inward.{context_of, frame_of}
use Rattle.scope_world.specs.Seen.{world_of}
use Rattle.scope_flow.specs.Always.{always}
use Rattle.scope_meaning.proofs.expression.construct.Goals as goal

pub returns : goal.returns
returns g c =
    let d = c.args.c.now.depth in
    let r = always (checked_of c.args.c.now.program.now) in
    let f = frame_of c.args.frame.now in
    let k = context_of c.args.c.now in
    let w = world_of g.G.Outside.told d c.args.w.now in
    let es = expressions_of c.args.es.now in
    let which = constructor_of c.in_ok-which.which in
    let types = parameter_types_of c.constructor_parameters-parameters.result in
    let x = reference_of c.args.target.now in
    let made = rw c.as_slice.ensures.value at c.in_ok-call.ensures in
    built_by r f c.args.class es x k w (world_of g.G.Outside.told d c.arguments.new.w) (world_of g.G.Outside.told d c.call.new.w) which types (map argument_of c.in_ok-given.given.items) c.in_ok-call.field-0 (c.in_ok-which.ensures d) c.constructor_parameters-parameters.ensures c.in_ok-given.ensures made

pub returns-in_err-call : goal.returns-in_err-call
returns-in_err-call g c =
    let d = c.args.c.now.depth in
    let r = always (checked_of c.args.c.now.program.now) in
    let f = frame_of c.args.frame.now in
    let k = context_of c.args.c.now in
    let w = world_of g.G.Outside.told d c.args.w.now in
    let es = expressions_of c.args.es.now in
    let which = constructor_of c.in_ok-which.which in
    let types = parameter_types_of c.constructor_parameters-parameters.result in
    let x = reference_of c.args.target.now in
    let stopped = rw c.as_slice.ensures.value at c.in_err-call.ensures in
    let halted = building_halted r f c.args.class es x k w (world_of g.G.Outside.told d c.arguments.new.w) (world_of g.G.Outside.told d c.call.new.w) which types (map argument_of c.in_ok-given.given.items) c.in_err-call.field-0.0 (c.in_ok-which.ensures d) c.constructor_parameters-parameters.ensures c.in_ok-given.ensures stopped in
    search (rules, halted)

pub returns-in_err-given : goal.returns-in_err-given
returns-in_err-given g c =
    let d = c.args.c.now.depth in
    let r = always (checked_of c.args.c.now.program.now) in
    let f = frame_of c.args.frame.now in
    let k = context_of c.args.c.now in
    let w = world_of g.G.Outside.told d c.args.w.now in
    let es = expressions_of c.args.es.now in
    let which = constructor_of c.in_ok-which.which in
    let types = parameter_types_of c.constructor_parameters-parameters.result in
    let x = reference_of c.args.target.now in
    let halted = arguments_halted r f c.args.class es x k w (world_of g.G.Outside.told d c.arguments.new.w) which types c.in_err-given.field-0.0 (c.in_ok-which.ensures d) c.constructor_parameters-parameters.ensures c.in_err-given.ensures in
    search (rules, halted)
