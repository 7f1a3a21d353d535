use Rattle.std.proofs.Common.{◌≡◌, true, rules}
use Rattle.scope_world.specs.Gives.{unwinds}
use Rattle.scope_world.specs.Seen.{world_of}
use Rattle.scope_flow.proofs.Passing.{destroyed, destroyed_halts}
use Rattle.scope_flow.proofs.handler.after_destructor.Goals as goal

pub returns-then-unwinds : goal.returns-then-unwinds
returns-then-unwinds g c = λ d m h.
    let halt = c.in-Err.halt in
    let stopped_so = rw c.in-Err.is at h in
    let u : unwinds halt ≡ true = search rules in
    destroyed_halts c.args.number m halt (world_of g.G.Outside.told d c.args.w.now) (world_of g.G.Outside.told d c.free-then-unwinds.new.self) u stopped_so (c.in_ok-free-in-Err.ensures d)

pub returns-in_ok-free-in-Ok : goal.returns-in_ok-free-in-Ok
returns-in_ok-free-in-Ok g c = λ d m h.
    destroyed c.args.number m (world_of g.G.Outside.told d c.args.w.now) (world_of g.G.Outside.told d c.free.new.self) (rw c.in-Ok.is at h) (c.in_ok-free-in-Ok.ensures d)
