use Rattle.scope_flow.proofs.Entering.{left_knowing}
use Rattle.cxx_ast.specs.View.{checked_of}
use Rattle.scope_world.specs.Inward.{context_of}
use Rattle.scope_world.specs.Seen.{world_of}
use Rattle.scope_flow.specs.Always.{always}
use Rattle.scope_flow.proofs.handler.after_handler.Goals as goal

pub returns-in-Some : goal.returns-in-Some
returns-in-Some g c = λ m h.
    let d = c.args.c.now.depth in
    let r = always (checked_of c.args.c.now.program.now) in
    let k = context_of c.args.c.now in
    let w = world_of g.G.Outside.told d c.args.w.now in
    left_knowing r c.args.number k m c.in-Some.kept (world_of g.G.Outside.told d c.after_scope.new.w) c.after_scope.result (c.in-Some.ensures m w h) (c.after_scope.ensures m h)
