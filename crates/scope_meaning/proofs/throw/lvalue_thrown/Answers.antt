use Rattle.meaning_forms.specs.Expression.{lvalue_of}
use Rattle.scope_world.specs.Objects.{reference_of}
use Rattle.scope_meaning.proofs.Thrown.{thrown_int, thrown_copy}
use Rattle.cxx_ast.specs.View.{checked_of, expression_of}
use Rattle.scope_world.specs.Inward.{context_of, frame_of}
use Rattle.scope_world.specs.Seen.{world_of}
use Rattle.scope_flow.specs.Always.{always}
use Rattle.scope_meaning.proofs.throw.lvalue_thrown.Goals as goal

pub returns-in-Int : goal.returns-in-Int
returns-in-Int g c =
    let d = c.args.c.now.depth in
    let r = always (checked_of c.args.c.now.program.now) in
    let f = frame_of c.args.frame.now in
    let k = context_of c.args.c.now in
    let w = world_of g.G.Outside.told d c.args.w.now in
    let e = expression_of c.args.e.now in
    let o = lvalue_of e in
    let names = c.in-Some.names.now in
    let x = reference_of c.in_ok-source.source in
    thrown_int r f e o names k w (world_of g.G.Outside.told d c.int_object-in-Int.new.w) x c.type_of.result c.int_object-in-Int.result c.in-Some.ensures (c.in_ok-source.ensures d) (c.type_of.ensures d) c.in-Int.is c.int_object-in-Int.ensures

pub returns : goal.returns
returns g c =
    let d = c.args.c.now.depth in
    let r = always (checked_of c.args.c.now.program.now) in
    let f = frame_of c.args.frame.now in
    let k = context_of c.args.c.now in
    let w = world_of g.G.Outside.told d c.args.w.now in
    let e = expression_of c.args.e.now in
    let o = lvalue_of e in
    let names = c.in-Some.names.now in
    let x = reference_of c.in_ok-source.source in
    thrown_copy r f e o names k w (world_of g.G.Outside.told d c.new_copy.new.w) x c.type_of.result c.in-Class.class c.new_copy.result c.in-Some.ensures (c.in_ok-source.ensures d) (c.type_of.ensures d) c.in-Class.is c.new_copy.ensures
