use Rattle.cxx_ast.specs.View.{checked_of}
use Rattle.scope_world.specs.Inward.{context_of}
use Rattle.scope_world.specs.Seen.{world_of}
use Rattle.scope_flow.specs.Always.{always}
use Rattle.scope_flow.proofs.Raising.{built_raised}
use Rattle.scope_flow.proofs.throw.throw_built.Goals as goal

pub returns-in-Ok-keep : goal.returns-in-Ok-keep
returns-in-Ok-keep g c = λ m h.
    let d = c.args.c.now.depth in
    built_raised (always (checked_of c.args.c.now.program.now)) c.args.number c.in-Ok.object (context_of c.args.c.now) m (world_of g.G.Outside.told d c.after_building.new.w) (world_of g.G.Outside.told d c.keep.new.self) (world_of g.G.Outside.told d c.raise_exception.new.w) c.raise_exception.result (c.in-Ok.ensures d m h) (c.in-Ok-keep.ensures d) c.raise_exception.ensures.flow
