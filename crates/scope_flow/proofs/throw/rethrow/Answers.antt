use Rattle.scope_world.specs.Inward.{numbers_of}
use Rattle.scope_flow.proofs.Raising.{thrown_again, travels_already, nothing_handled}
use Rattle.cxx_ast.specs.View.{checked_of}
use Rattle.scope_world.specs.Inward.{context_of}
use Rattle.scope_world.specs.Seen.{world_of}
use Rattle.scope_flow.specs.Always.{always}
use Rattle.scope_flow.proofs.throw.rethrow.Goals as goal

pub returns-in-None : goal.returns-in-None
returns-in-None g c =
    let d = c.args.c.now.depth in
    let r = always (checked_of c.args.c.now.program.now) in
    let k = context_of c.args.c.now in
    let w = world_of g.G.Outside.told d c.args.w.now in
    let ns = numbers_of c.args.c.now.handled.now in
    nothing_handled r ns k w (world_of g.G.Outside.told d c.terminate.new.w) c.terminate.result c.newest.result c.newest.ensures c.in-None.is c.terminate.ensures.flow

pub returns-then-contains : goal.returns-then-contains
returns-then-contains g c =
    let d = c.args.c.now.depth in
    let r = always (checked_of c.args.c.now.program.now) in
    let k = context_of c.args.c.now in
    let w = world_of g.G.Outside.told d c.args.w.now in
    let ns = numbers_of c.args.c.now.handled.now in
    travels_already r ns c.in-Some.number k w (world_of g.G.Outside.told d c.terminate-then-contains.new.w) c.terminate-then-contains.result c.newest.result c.contains.result c.newest.ensures c.in-Some.is c.contains.ensures c.if-contains.true c.terminate-then-contains.ensures.flow

pub returns-else-contains : goal.returns-else-contains
returns-else-contains g c =
    let d = c.args.c.now.depth in
    let r = always (checked_of c.args.c.now.program.now) in
    let k = context_of c.args.c.now in
    let w = world_of g.G.Outside.told d c.args.w.now in
    let ns = numbers_of c.args.c.now.handled.now in
    thrown_again r ns c.in-Some.number k w (world_of g.G.Outside.told d c.raise_exception.new.w) c.raise_exception.result c.newest.result c.contains.result c.newest.ensures c.in-Some.is c.contains.ensures c.if-contains.false c.raise_exception.ensures.flow
