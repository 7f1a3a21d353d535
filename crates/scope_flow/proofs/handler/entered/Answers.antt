use Rattle.std.proofs.Common.{rules}
use Rattle.scope_world.specs.Objects.{reference_of}
use Rattle.scope_world.specs.Seen.{exception_of}
use Rattle.scope_flow.proofs.Entering.{entered_done, entry_halted, parameter_halted}
use Rattle.cxx_ast.specs.View.{checked_of}
use Rattle.scope_world.specs.Inward.{context_of}
use Rattle.scope_world.specs.Seen.{world_of}
use Rattle.scope_flow.specs.Always.{always}
use Rattle.scope_flow.proofs.handler.entered.Goals as goal

pub returns : goal.returns
returns g c =
    let d = c.args.c.now.depth in
    let r = always (checked_of c.args.c.now.program.now) in
    let k = context_of c.args.c.now in
    let w = world_of g.G.Outside.told d c.args.w.now in
    let x = exception_of c.exception.result in
    let source = reference_of c.object-source.result in
    entered_done r c.args.ty.now c.args.number k w (world_of g.G.Outside.told d c.catch_parameter.new.w) (world_of g.G.Outside.told d c.enter.new.w) source (reference_of c.in_ok-parameter.parameter) x c.object-source.ensures (c.exception.ensures d) c.in_ok-parameter.ensures c.in_ok-enter.ensures

pub returns-in_err-enter : goal.returns-in_err-enter
returns-in_err-enter g c =
    let d = c.args.c.now.depth in
    let r = always (checked_of c.args.c.now.program.now) in
    let k = context_of c.args.c.now in
    let w = world_of g.G.Outside.told d c.args.w.now in
    let x = exception_of c.exception.result in
    let source = reference_of c.object-source.result in
    let halted = entry_halted r c.args.ty.now c.args.number k w (world_of g.G.Outside.told d c.catch_parameter.new.w) (world_of g.G.Outside.told d c.enter.new.w) source (reference_of c.in_ok-parameter.parameter) x c.in_err-enter.field-0.0 c.object-source.ensures (c.exception.ensures d) c.in_ok-parameter.ensures c.in_err-enter.ensures in
    search (rules, halted)

pub returns-in_err-parameter : goal.returns-in_err-parameter
returns-in_err-parameter g c =
    let d = c.args.c.now.depth in
    let r = always (checked_of c.args.c.now.program.now) in
    let k = context_of c.args.c.now in
    let w = world_of g.G.Outside.told d c.args.w.now in
    let x = exception_of c.exception.result in
    let source = reference_of c.object-source.result in
    let halted = parameter_halted r c.args.ty.now c.args.number k w (world_of g.G.Outside.told d c.catch_parameter.new.w) source x c.in_err-parameter.field-0.0 c.object-source.ensures (c.exception.ensures d) c.in_err-parameter.ensures in
    search (rules, halted)
