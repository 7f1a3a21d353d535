use Rattle.std.proofs.Common.{rules}
use Rattle.scope_world.specs.Objects.{part_of, reference_of}
use Rattle.scope_meaning.proofs.Thrown.{thrown_object, thrown_halted}
use Rattle.cxx_ast.specs.View.{checked_of, expressions_of}
use Rattle.scope_world.specs.Inward.{context_of, frame_of}
use Rattle.scope_world.specs.Seen.{world_of}
use Rattle.scope_flow.specs.Always.{always}
use Rattle.scope_meaning.proofs.throw.object_thrown.Goals as goal

pub returns : goal.returns
returns g c =
    let d = c.args.c.now.depth in
    let r = always (checked_of c.args.c.now.program.now) in
    let f = frame_of c.args.frame.now in
    let k = context_of c.args.c.now in
    let w = world_of g.G.Outside.told d c.args.w.now in
    let es = expressions_of c.args.es.now in
    let a = part_of c.in_ok-part.part in
    let x = reference_of c.whole.result in
    thrown_object r f c.args.class es k w (world_of g.G.Outside.told d c.new_object.new.self) (world_of g.G.Outside.told d c.construct.new.w) c.in_ok-object.object a x c.in_ok-part.ensures (c.in_ok-object.ensures d) c.whole.ensures c.in_ok-construct.ensures

pub returns-in_err-construct : goal.returns-in_err-construct
returns-in_err-construct g c =
    let d = c.args.c.now.depth in
    let r = always (checked_of c.args.c.now.program.now) in
    let f = frame_of c.args.frame.now in
    let k = context_of c.args.c.now in
    let w = world_of g.G.Outside.told d c.args.w.now in
    let es = expressions_of c.args.es.now in
    let a = part_of c.in_ok-part.part in
    let x = reference_of c.whole.result in
    let halted = thrown_halted r f c.args.class es k w (world_of g.G.Outside.told d c.new_object.new.self) (world_of g.G.Outside.told d c.construct.new.w) c.in_ok-object.object a x c.in_err-construct.field-0.0 c.in_ok-part.ensures (c.in_ok-object.ensures d) c.whole.ensures c.in_err-construct.ensures in
    search (rules, halted)
