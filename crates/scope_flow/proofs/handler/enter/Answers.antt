use Rattle.scope_flow.proofs.Entering.{enter_refused, enter_done}
use Rattle.cxx_ast.specs.View.{checked_of}
use Rattle.scope_world.specs.Inward.{context_of}
use Rattle.scope_world.specs.Seen.{world_of}
use Rattle.scope_flow.specs.Always.{always}
use Rattle.scope_flow.proofs.handler.enter.Goals as goal

pub returns-then-is_refused : goal.returns-then-is_refused
returns-then-is_refused g c =
    let d = c.args.c.now.depth in
    let r = always (checked_of c.args.c.now.program.now) in
    let k = context_of c.args.c.now in
    let w = world_of g.G.Outside.told d c.args.w.now in
    enter_refused r c.args.number k w (world_of g.G.Outside.told d c.terminate.new.w) c.terminate.result c.is_refused.result (c.is_refused.ensures d) c.if-is_refused.true c.terminate.ensures.none

pub returns : goal.returns
returns g c =
    let d = c.args.c.now.depth in
    let r = always (checked_of c.args.c.now.program.now) in
    let k = context_of c.args.c.now in
    let w = world_of g.G.Outside.told d c.args.w.now in
    enter_done r c.args.number k w (world_of g.G.Outside.told d c.emit.new.self) c.is_refused.result (c.is_refused.ensures d) c.if-is_refused.false (c.in_ok-emit.ensures d)
