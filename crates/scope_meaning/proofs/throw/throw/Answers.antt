use Rattle.meaning_forms.specs.Outcome.{Flow}
use Rattle.meaning_forms.specs.Statement.{operand_thrown}
use Rattle.scope_flow.proofs.Raising.{new_full, new_built}
use Rattle.cxx_ast.specs.View.{checked_of, expression_of}
use Rattle.scope_world.specs.Inward.{context_of, frame_of}
use Rattle.scope_world.specs.Seen.{world_of}
use Rattle.scope_flow.specs.Always.{always}
use Rattle.scope_meaning.proofs.throw.throw.Goals as goal

pub returns-then-is_full : goal.returns-then-is_full
returns-then-is_full g c =
    let d = c.args.c.now.depth in
    let r = always (checked_of c.args.c.now.program.now) in
    let f = frame_of c.args.frame.now in
    let k = context_of c.args.c.now in
    let w = world_of g.G.Outside.told d c.args.w.now in
    let e = expression_of c.args.operand.now in
    new_full Flow r k (operand_thrown r f e k) w (world_of g.G.Outside.told d c.terminate.new.w) c.terminate.result c.is_full.result (c.is_full.ensures d) c.if-is_full.true c.terminate.ensures.flow

pub returns-in-Ok : goal.returns-in-Ok
returns-in-Ok g c =
    let d = c.args.c.now.depth in
    let r = always (checked_of c.args.c.now.program.now) in
    let f = frame_of c.args.frame.now in
    let k = context_of c.args.c.now in
    let w = world_of g.G.Outside.told d c.args.w.now in
    let e = expression_of c.args.operand.now in
    let u = world_of g.G.Outside.told d c.make.new.self in
    new_built r k (operand_thrown r f e k) c.in-Ok.number w u (world_of g.G.Outside.told d c.throw_built.new.w) c.throw_built.result c.is_full.result (c.is_full.ensures d) c.if-is_full.false (c.in-Ok.ensures d) (c.throw_built.ensures (operand_thrown r f e k u) c.operand_thrown-outcome.ensures)
