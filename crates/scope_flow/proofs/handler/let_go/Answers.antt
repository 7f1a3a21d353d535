use Rattle.scope_flow.proofs.Entering.{left_alone, left_given}
use Rattle.cxx_ast.specs.View.{checked_of}
use Rattle.scope_world.specs.Inward.{context_of}
use Rattle.scope_world.specs.Seen.{world_of}
use Rattle.scope_flow.specs.Always.{always}
use Rattle.scope_flow.proofs.handler.let_go.Goals as goal

pub returns-then-kept : goal.returns-then-kept
returns-then-kept g c =
    let d = c.args.c.now.depth in
    let r = always (checked_of c.args.c.now.program.now) in
    let k = context_of c.args.c.now in
    let w = world_of g.G.Outside.told d c.args.w.now in
    left_alone r c.args.number c.args.kept k w (world_of g.G.Outside.told d c.emit.new.self) (c.in_ok-emit.ensures d) c.if-kept.true

pub returns-else-kept : goal.returns-else-kept
returns-else-kept g c =
    let d = c.args.c.now.depth in
    let r = always (checked_of c.args.c.now.program.now) in
    let k = context_of c.args.c.now in
    let w = world_of g.G.Outside.told d c.args.w.now in
    left_given r c.args.number c.args.kept k w (world_of g.G.Outside.told d c.emit.new.self) (world_of g.G.Outside.told d c.give_back.new.w) c.give_back.result (c.in_ok-emit.ensures d) c.if-kept.false c.give_back.ensures
