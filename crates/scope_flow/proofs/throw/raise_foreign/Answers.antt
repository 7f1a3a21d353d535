use Rattle.cxx_ast.specs.View.{checked_of}
use Rattle.scope_world.specs.Inward.{context_of}
use Rattle.scope_world.specs.Seen.{world_of}
use Rattle.scope_flow.specs.Always.{always}
use Rattle.scope_flow.proofs.Raising.{foreign_full, foreign_raised}
use Rattle.scope_flow.proofs.throw.raise_foreign.Goals as goal

pub returns-then-is_full : goal.returns-then-is_full
returns-then-is_full g c =
    let d = c.args.c.now.depth in
    foreign_full (always (checked_of c.args.c.now.program.now)) c.args.guest c.args.token (context_of c.args.c.now) (world_of g.G.Outside.told d c.args.w.now) (world_of g.G.Outside.told d c.terminate.new.w) c.terminate.result c.is_full.result (c.is_full.ensures d) c.if-is_full.true c.terminate.ensures.int

pub returns-in-Ok : goal.returns-in-Ok
returns-in-Ok g c =
    let d = c.args.c.now.depth in
    foreign_raised (always (checked_of c.args.c.now.program.now)) c.args.guest c.args.token c.in-Ok.number (context_of c.args.c.now) (world_of g.G.Outside.told d c.args.w.now) (world_of g.G.Outside.told d c.raise.new.self) (world_of g.G.Outside.told d c.raise_exception.new.w) c.raise_exception.result c.is_full.result (c.is_full.ensures d) c.if-is_full.false (c.in-Ok.ensures d) c.raise_exception.ensures.int
