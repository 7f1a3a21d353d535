use Rattle.std.proofs.Common.{map}
use Rattle.cxx_ast.specs.View.{checked_of}
use Rattle.scope_world.specs.Inward.{argument_of, context_of, frame_of}
use Rattle.scope_world.specs.Objects.{reference_of}
use Rattle.scope_world.specs.Seen.{world_of}
use Rattle.scope_meaning.proofs.Evaluated.{called_on}
use Rattle.scope_meaning.proofs.callees.call_method.Goals as goal

pub returns : goal.returns
returns g c =
    let d = c.args.c.now.depth in
    let p = checked_of c.args.c.now.program.now in
    let u = world_of g.G.Outside.told d c.args.w.now in
    let v = world_of g.G.Outside.told d c.call.new.w in
    called_on p (frame_of c.args.frame.now) c.args.class c.args.place c.args.object.now (context_of c.args.c.now) u v (map argument_of c.args.given.now) (reference_of c.in_ok-at.at) (reference_of c.in_ok-at-2.at) c.call.result (c.in_ok-at.ensures d) (c.in_ok-at-2.ensures d) c.call.ensures
